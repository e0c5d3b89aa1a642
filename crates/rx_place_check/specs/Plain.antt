-- A test of a place that is stricter than B7, and quicker: where all places pass it, B7 lets them pass.
use Rattle.std.specs.Prelude.{Bool, cond, not, ◌&&◌, ◌||◌, List, leb}
use Rattle.rx_place_spec.specs.declared.Place.{Place}
use Rattle.rx_spec.specs.Reception.{sound_beside}

-- What B7 asks of the held place p beside the places ps, and besides that its length is that of a datagram, also where
-- its source is being swallowed.
abbrev pub plain_beside : List Place → Place → Bool
plain_beside ps p = leb p.len 72 && sound_beside ps p

-- Whether the place p passes beside the places ps: by B7, or by the stricter test.
abbrev pub passing : Bool → List Place → Place → Bool
passing plain ps p = not p.held || cond plain (plain_beside ps p) (sound_beside ps p)
