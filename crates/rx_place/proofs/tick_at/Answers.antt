-- `rx_place::tick_at` meets its contract.
-- Assumes nothing.
use Rattle.rx_place.proofs.ReadLaws.{tick_is}
use Rattle.rx_place.proofs.tick_at.Goals as goal

pub returns : goal.returns
returns c = rw (tick_is c.args.places.now c.args.i, c.from_le_bytes.ensures, c.byte_of.ensures, c.byte_of-2.ensures)
