-- `write_masked` meets its contract: so many bytes are its pairs.
-- Assumes nothing.
use native.Mathlib.Omega.{arith}
use Rattle.tool_write_spec.specs.Writing.{writing, in_range}
use Rattle.tool_write_spec.proofs.WritesLaws.{pairs-range, masked-command}
use Rattle.tool_write.proofs.write_masked.Goals as goal

pub returns-in_err-check : goal.returns-in_err-check
unfolding writing in_range
returns-in_err-check c = grind (arith, pairs-range)

pub returns : goal.returns
unfolding writing in_range
returns c = grind (arith, pairs-range, masked-command)
