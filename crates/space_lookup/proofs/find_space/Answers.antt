-- `find_space` meets its contract. The invariant: what is known is what the spaces left say.
-- Assumes nothing.
use Rattle.std.proofs.Common.{arith, sym, ap, ◌≡◌, ◌∙◌, length}
use Rattle.space_table.specs.Table.{spaces_in}
use Rattle.space_table.proofs.TableLaws.{space-in}
use Rattle.space_lookup.specs.Description.{find_space}
use Rattle.space_lookup.proofs.Laws.{find_hit, find_miss, find_none}
use Rattle.space_lookup.proofs.find_space.Goals as goal

pub returns-then-row-number : goal.returns-then-row-number
returns-then-row-number c =
    let n = c.args.number in
    let step = c.in-Some.ensures.steps.1 in
    let six : length c.in-Some.row.now ≡ 16 = step.1 ∙ c.loop-row.invariant.size in
    rw (c.space_at.ensures, space-in c.in-Some.row.now 0 (omega (arith, six))) (sym (c.loop-row.invariant.left ∙ ap (λ t. find_space (spaces_in t) n) step.0 ∙ find_hit _ _ six n c.if-row-number.true))

pub loop-row-preserved : goal.loop-row-preserved
loop-row-preserved c =
    let n = c.args.number in
    let steps = c.in-Some.ensures.steps in
    let six : length c.in-Some.row.now ≡ 16 = steps.1.1 ∙ c.loop-row.invariant.size in
    record {
      can = omega (arith, steps.0);
      finite = tt;
      size = steps.0 ∙ c.loop-row.invariant.size;
      left = c.loop-row.invariant.left ∙ ap (λ t. find_space (spaces_in t) n) steps.1.0 ∙ find_miss _ _ six n c.if-row-number.false;
    }

pub returns : goal.returns
returns c =
    let n = c.args.number in
    let none = c.in-None.ensures.steps.1 in
    c.left_out.ensures ∙ sym (c.loop-row.invariant.left ∙ find_none _ (omega (arith, none.0)) n)
