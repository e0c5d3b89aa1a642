-- `rx_place::len_at` meets its contract.
-- Assumes nothing.
use Rattle.rx_place.proofs.ReadLaws.{len_is}
use Rattle.rx_place.proofs.len_at.Goals as goal

pub returns : goal.returns
returns c = rw (len_is c.args.places.now c.args.i, c.byte_of.ensures)
