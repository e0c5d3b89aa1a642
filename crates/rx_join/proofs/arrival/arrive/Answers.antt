-- `rx_join::arrive` meets its contract.
-- Assumes nothing.
use mathlib.Core.Path.{◌≡◌}
use mathlib.Core.Bool.{false}
use Rattle.rx_place_spec.proofs.ByteLaws.{renewed-same}
use Rattle.rx_join.proofs.arrival.arrive.Goals as goal

pub returns-else-looked-clause-renewal : goal.returns-else-looked-clause-renewal
returns-else-looked-clause-renewal c =
    let e : c.args.looked.due ≡ false = c.if-looked.false in
    rw e (renewed-same c.args.places.now)
