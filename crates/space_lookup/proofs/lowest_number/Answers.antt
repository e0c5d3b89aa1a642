-- `lowest_number` meets its contract. The invariant: the lowest is that so far or one of those left.
-- Assumes nothing.
use Rattle.std.proofs.Common.{rules, arith, ap, ◌≡◌, ◌∙◌, min, length}
use Rattle.std.specs.Slice.Iter.{chunks_exact_rest}
use Rattle.space_table.specs.Table.{spaces_in}
use Rattle.space_lookup.specs.Description.{lowest_number}
use Rattle.space_lookup.proofs.Laws.{lowest-next, lowest-none, lowest-bound}
use Rattle.space_lookup.proofs.lowest_number.Goals as goal

pub loop-row-init : goal.loop-row-init
loop-row-init c =
    let t = c.args.spaces.now in
    record {
      can = search rules;
      finite = tt;
      size = search rules;
      bound = search rules;
      left =
          let low : lowest_number (spaces_in t) ≡ min 253 (lowest_number (spaces_in t)) = omega (arith, lowest-bound (spaces_in t)) in
          search rules;
    }

pub loop-row-preserved : goal.loop-row-preserved
loop-row-preserved c =
    let steps = c.in-Some.ensures.steps in
    let before = c.loop-row.invariant in
    let six : length c.in-Some.row.now ≡ 16 = steps.1.1 ∙ before.size in
    let left = before.left ∙ ap (λ t. min c.loop-row.lowest (lowest_number (spaces_in t))) steps.1.0 in
    let next = lowest-next c.in-Some.row.now (chunks_exact_rest c.next.new.self) six in
    record {
      can = omega (arith, steps.0);
      finite = tt;
      size = steps.0 ∙ before.size;
      bound = omega arith;
      left = omega arith;
    }

pub returns : goal.returns
returns c =
    let none = c.in-None.ensures.steps.1 in
    let before = c.loop-row.invariant in
    let empty = lowest-none (chunks_exact_rest c.loop-row.row-iterator) (omega (arith, none.0)) in
    omega arith
