-- `next_change` meets its contract.
-- Assumes nothing.
use Rattle.std.proofs.Common.{◌∙◌, sym}
use Rattle.mask_diff_spec.proofs.FewestLaws.{all-updates}
use Rattle.mask_diff.proofs.LoopLaws.{find_at}
use Rattle.mask_diff.proofs.next_change.Goals as goal

pub returns-then-old-new-clause-updates : goal.returns-then-old-new-clause-updates
returns-then-old-new-clause-updates c = all-updates

pub returns-then-pairs-lt-PAIRS_ROOM-clause-updates : goal.returns-then-pairs-lt-PAIRS_ROOM-clause-updates
returns-then-pairs-lt-PAIRS_ROOM-clause-updates c = all-updates

pub returns-in_default-clause-updates : goal.returns-in_default-clause-updates
returns-in_default-clause-updates c = all-updates

pub returns-clause-finds : goal.returns-clause-finds
returns-clause-finds c =
    let a = c.args in
    find_at a.old.now a.new.now c.if-old-new.false c.in-Some.ensures.inside a.from (sym c.in-Some.is ∙ c.first_change.ensures.first)
    a.pairs.now c.if-pairs-lt-PAIRS_ROOM.false c.min.ensures c.count_changes-count.ensures.last c.put_changes.ensures

pub returns-clause-updates : goal.returns-clause-updates
returns-clause-updates c = all-updates
