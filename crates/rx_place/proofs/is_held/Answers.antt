-- `rx_place::is_held` meets its contract.
-- Assumes nothing.
use Rattle.rx_place.proofs.ReadLaws.{held-is}
use Rattle.rx_place.proofs.is_held.Goals as goal

pub returns : goal.returns
returns c = rw (held-is c.args.places.now c.args.i, c.byte_of.ensures)
