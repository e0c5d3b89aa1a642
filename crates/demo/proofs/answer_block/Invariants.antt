-- What is left of the block: each call goes on in it.
use Rattle.std.proofs.Common.{◌-◌, length}
use Rattle.demo.proofs.answer_block.Given as goal

abbrev pub decreases-loop-at : goal.decreases-loop-at
decreases-loop-at l = length l.block - l.at
