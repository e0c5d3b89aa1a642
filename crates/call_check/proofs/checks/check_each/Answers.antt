-- `check_each` meets its contract. The invariant: no space so far is refused.
-- Assumes nothing.
use mathlib.Core.Path.{refl, sym, ◌∙◌}
use Prim.Native.Nat.{◌/◌, ◌<◌}
use native.Mathlib.Omega.{arith}
use lib.ListN.{length}
use Rattle.std.proofs.lemmas.Result.{err_from_is_err_and}
use Rattle.call_error.specs.CallErrors.{space_numbers}
use Rattle.space_table.specs.Table.{spaces_from, spaces_in}
use Rattle.space_table.proofs.TableLaws.{spaces-length}
use Rattle.call_check.proofs.Laws.{numbers_more, numbers-length, turn-refused, turn-used, turn-good, turn-none}
use Rattle.call_check.proofs.checks.check_each.Goals as goal

pub loop-i-init : goal.loop-i-init
unfolding space_numbers spaces_from
loop-i-init c = refl

pub returns-in_err-check_window : goal.returns-in_err-check_window
returns-in_err-check_window c =
    let there : c.loop-i.i < length (spaces_in c.args.table.now) = omega (arith, c.space_count-i-end.ensures) in
    let p = err_from_is_err_and c.from_residual.result c.from_residual.ensures.1 in
    rw (p.1, p.2)
    (sym (c.loop-i.invariant ∙ turn-refused _ _ _ _ _ (numbers-length _ 0 _) there c.space_at-space.ensures (sym c.check_window.ensures ∙ c.in_err-check_window.was)))

pub is_used-requires : goal.is_used-requires
is_used-requires c =
    let t = c.args.table.now in
    omega (arith, c.space_count-i-end.ensures, spaces-length t 0 (length t / 16))

pub returns-then-is_used : goal.returns-then-is_used
returns-then-is_used c =
    let there : c.loop-i.i < length (spaces_in c.args.table.now) = omega (arith, c.space_count-i-end.ensures) in
    sym
    (c.loop-i.invariant
    ∙ turn-used _ _ _ _ _ (numbers-length _ 0 _) there c.space_at-space.ensures (sym c.check_window.ensures ∙ c.in_ok-check_window.was)
    (sym c.is_used.ensures ∙ c.if-is_used.true))

pub loop-i-preserved : goal.loop-i-preserved
loop-i-preserved c =
    let there : c.loop-i.i < length (spaces_in c.args.table.now) = omega (arith, c.space_count-i-end.ensures) in
    rw (numbers_more c.args.table.now c.loop-i.i there c.space_at-space.ensures)
    (c.loop-i.invariant
    ∙ turn-good _ _ _ _ _ (numbers-length _ 0 _) there c.space_at-space.ensures (sym c.check_window.ensures ∙ c.in_ok-check_window.was)
    (sym c.is_used.ensures ∙ c.if-is_used.false))

pub returns : goal.returns
returns c =
    sym
    (c.loop-i.invariant
    ∙ turn-none (spaces_in c.args.table.now) c.loop-i.i _ _ _ (omega (arith, c.space_count-i-end.ensures)))
