-- `is_formed` meets its contract where the length is none of a line: the rest is found.
-- Assumes nothing.
use Rattle.std.proofs.Common.{length, arith}
use lib.Bits.{and_mask}
use Rattle.std.proofs.lemmas.Bool.Decides.{nat_tests}
use Rattle.gridconnect_parse.specs.Form.{formed}
use Rattle.gridconnect_parse.proofs.is_formed.Goals.{then-n-gt28-via-then-n-gt28, then-n-gt28-via-else-n-gt28+then-n-ne0}
use Rattle.gridconnect_parse.proofs.is_formed.Goals as goal

pub returns-then-n-gt28 : goal.returns-then-n-gt28
unfolding formed
returns-then-n-gt28 c = elim c.then-n-gt28.branch [
  | then-n-gt28-via-then-n-gt28 w ↦ grind (arith, nat_tests, w.if-n-gt28.true)
  | then-n-gt28-via-else-n-gt28+then-n-ne0 w ↦ grind (arith, nat_tests, and_mask (length c.args.line.now) 1, w.if-n-gt28.false, w.if-n-ne0.true)
]
