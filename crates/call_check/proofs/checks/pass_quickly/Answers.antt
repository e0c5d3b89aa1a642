-- `pass_quickly` meets its contract. The invariant: no space so far is refused, and their numbers are marked.
-- Assumes nothing.
use mathlib.Core.Path.{refl, sym, ◌∙◌}
use Prim.Native.Nat.{◌<◌}
use native.Mathlib.Omega.{arith}
use lib.ListN.{length}
use Rattle.call_error.specs.CallErrors.{space_numbers}
use Rattle.call_error.proofs.Laws.{is-passed}
use Rattle.space_table.specs.Table.{spaces_from, spaces_in}
use Rattle.call_check.proofs.Laws.{marks_none, marks_more, numbers_more, numbers-length, turn-good, turn-none}
use Rattle.call_check.proofs.checks.pass_quickly.Goals as goal

pub loop-i-init : goal.loop-i-init
unfolding space_numbers spaces_from
loop-i-init c = record { marked = marks_none; passed = refl }

pub loop-i-preserved : goal.loop-i-preserved
loop-i-preserved c =
    let t = c.args.table.now in
    let l = c.loop-i in
    let s = c.space_at-space in
    let there : l.i < length (spaces_in t) = omega (arith, c.space_count-i-end.ensures) in
    let more = numbers_more t l.i there s.ensures in
    let passes = is-passed _ (sym (c.window_passes.ensures l.i) ∙ c.if-not-window_passes.false) in
    record {
      marked = rw more (marks_more l.marks _ _ l.invariant.marked);
      passed = rw more
          (l.invariant.passed
          ∙ turn-good _ _ _ _ _ (numbers-length _ 0 _) there s.ensures passes (l.invariant.marked s.result.number c.if-marked-marks.false));
    }

pub returns : goal.returns
returns c e =
    c.loop-i.invariant.passed
    ∙ turn-none (spaces_in c.args.table.now) c.loop-i.i _ _ _ (omega (arith, c.space_count-i-end.ensures))
