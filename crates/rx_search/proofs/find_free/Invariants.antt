-- The invariant of `rx_search::find_free`: the first free place is the first from place i on.
-- Assumes nothing.
use mathlib.Core.Path.{◌≡◌}
use Prim.Native.Nat.{◌+◌}
use lib.ListN.{drop}
use Rattle.rx_spec.specs.Reception.{free_in}
use Rattle.rx_place_spec.specs.PlaceBytes.{places_in}
use Rattle.rx_search.proofs.find_free.Given as goal

abbrev pub invariant-loop-i : goal.invariant-loop-i
invariant-loop-i l = free_in (places_in l.places) ≡ l.i + free_in (drop l.i (places_in l.places))
