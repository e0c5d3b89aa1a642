-- The invariant of `rx_search::all_pass`: B7 lets the first i places pass.
-- Assumes nothing.
use lib.ListN.{take}
use Rattle.rx_place_spec.specs.PlaceBytes.{places_in}
use Rattle.rx_spec.proofs.PlaceLaws.{Good}
use Rattle.rx_search.proofs.all_pass.Given as goal

abbrev pub invariant-loop-i : goal.invariant-loop-i
invariant-loop-i g l = Good (take l.i (places_in l.places))
