-- `rx_place::source_at` meets its contract.
-- Assumes nothing.
use Rattle.rx_place.proofs.ReadLaws.{source_is}
use Rattle.rx_place.proofs.source_at.Goals as goal

pub returns : goal.returns
returns c = rw (source_is c.args.places.now c.args.i, c.from_le_bytes.ensures, c.byte_of.ensures, c.byte_of-2.ensures)
