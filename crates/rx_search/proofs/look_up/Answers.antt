-- `rx_search::look_up` meets its contract.
-- Assumes nothing.
use Rattle.rx_place_spec.specs.PlaceBytes.{places_in}
use Rattle.rx_place_spec.proofs.ByteLaws.{places-length}
use Rattle.rx_search.proofs.IdleLaws.{none_found}
use Rattle.rx_search.proofs.look_up.Goals as goal

pub returns-then-is_idle : goal.returns-then-is_idle
returns-then-is_idle c =
    let a = c.args in
    none_found a.source (places_in a.places.now) (places-length a.places.now) (c.is_idle.ensures c.if-is_idle.true) a.tick
