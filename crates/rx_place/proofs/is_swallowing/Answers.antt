-- `rx_place::is_swallowing` meets its contract.
-- Assumes nothing.
use Rattle.rx_place.proofs.ReadLaws.{swallowing-is}
use Rattle.rx_place.proofs.is_swallowing.Goals as goal

pub returns : goal.returns
returns c = rw (swallowing-is c.args.places.now c.args.i, c.byte_of.ensures)
