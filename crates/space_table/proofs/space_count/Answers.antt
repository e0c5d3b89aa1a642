-- `space_count` meets its contract.
-- Assumes nothing.
use Rattle.space_table.proofs.TableLaws.{spaces-length}
use Rattle.space_table.proofs.space_count.Goals as goal

pub returns : goal.returns
returns c = rw spaces-length
