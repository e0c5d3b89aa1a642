-- The invariant of `rx_search::look_through`: B7 lets the first i places pass, `found` is what is found among them, and
-- `due` says whether one of them is due.
-- Assumes nothing.
use mathlib.Core.Path.{◌≡◌}
use lib.ListN.{take}
use Rattle.rx_place_spec.specs.PlaceBytes.{places_in}
use Rattle.rx_search.specs.Search.{any_due}
use Rattle.rx_search.proofs.SearchLaws.{Passed}
use Rattle.rx_search.proofs.look_through.Given as goal

abbrev pub invariant-loop-i : goal.invariant-loop-i
invariant-loop-i g l = Passed l.source (places_in l.places) l.i l.found × (l.due ≡ any_due l.tick (take l.i (places_in l.places)))
