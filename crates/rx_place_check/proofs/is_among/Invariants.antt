-- The invariant of `rx_place_check::is_among`: none of the first i places is for the source.
-- Assumes nothing.
use Rattle.std.proofs.Common.{◌≡◌, false, take}
use Rattle.rx_spec.specs.Reception.{has_place}
use Rattle.rx_place_spec.specs.PlaceBytes.{places_in}
use Rattle.rx_place_check.proofs.is_among.Given as goal

abbrev pub invariant-loop-i : goal.invariant-loop-i
invariant-loop-i l = has_place l.source (take l.i (places_in l.places)) ≡ false
