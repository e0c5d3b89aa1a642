-- `change` meets its contract.
-- Assumes nothing.
use Rattle.exec_lock.specs.Lock.{lock_after}
use Rattle.exec_lock.proofs.change.Goals as goal
use Rattle.exec_lock.proofs.change.Goals.{then-is_all_zero-via-then-is_all_zero, then-is_all_zero-via-else-is_all_zero+then-is_all_zero-2}

pub returns-then-is_all_zero : goal.returns-then-is_all_zero
unfolding lock_after
returns-then-is_all_zero c =
    elim c.then-is_all_zero.branch [
      | then-is_all_zero-via-then-is_all_zero w ↦ rw (← c.is_all_zero.ensures, w.if-is_all_zero.true)
      | then-is_all_zero-via-else-is_all_zero+then-is_all_zero-2 w ↦ rw (← c.is_all_zero.ensures, w.if-is_all_zero.false, ← w.is_all_zero-else-is_all_zero.ensures, w.if-is_all_zero-2.true)
    ]

pub returns-else-is_all_zero-2 : goal.returns-else-is_all_zero-2
unfolding lock_after
returns-else-is_all_zero-2 c =
    rw (← c.is_all_zero.ensures, c.if-is_all_zero.false, ← c.is_all_zero-else-is_all_zero.ensures, c.if-is_all_zero-2.false)
