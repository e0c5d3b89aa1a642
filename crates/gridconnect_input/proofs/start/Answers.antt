-- `start` meets its contract, and how an input is cut into chunks plays no part.
-- Assumes nothing.
use mathlib.Core.Path.{refl}
use Rattle.gridconnect_input.specs.Input.{unfinished}
use Rattle.gridconnect_input.proofs.ChunkLaws.{any_cuts}
use Rattle.gridconnect_input.proofs.start.Goals as goal

pub returns : goal.returns
unfolding unfinished
returns c = record { carry = refl; cuts = any_cuts }
