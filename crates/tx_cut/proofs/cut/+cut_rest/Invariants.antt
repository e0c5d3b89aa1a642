-- The measure of `tx_cut::cut::cut_rest`: the length of the rest.
-- Assumes nothing.
use Rattle.std.proofs.Common.{length}
use Rattle.tx_cut.proofs.cut.+cut_rest.Given as goal

abbrev pub decreases-cut_rest : goal.decreases-cut_rest
decreases-cut_rest l = length l.rest.now
