-- The invariant of `rx_timeout::drop_due`: the first i places are dropped where they are due.
-- Assumes nothing.
use Rattle.rx_timeout.proofs.DropFirst.{DroppedTo}
use Rattle.rx_timeout.proofs.drop_due.Given as goal

abbrev pub invariant-loop-i : goal.invariant-loop-i
invariant-loop-i l = DroppedTo l.tick l.i l.initial.places l.places
