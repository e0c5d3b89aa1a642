-- The search that the code makes: B7, the place of a source and what is due, in one pass.
use Rattle.std.specs.Prelude.{ℕ, Bool, false, cond, ◌||◌, List, [], ◌∷◌, Option, Some, None, Result, Ok, Err, ltb}
use Rattle.rx_place_spec.specs.declared.Place.{Place}
use Rattle.rx_place_spec.specs.Ticks.{is_due}
use Rattle.rx_spec.specs.Reception.{place_of, sound}
use Rattle.rx_search.specs.declared.Looked.{Looked}
use Rattle.rx_search.specs.declared.Unsound.{Unsound}

-- Place i, if there is one: the eight are 0 to 7.
abbrev pub there : ℕ → Option ℕ
there i = cond (ltb i 8) (Some i) None

-- Whether one of the places is due at the tick `now`.
abbrev pub any_due : ℕ → List Place → Bool
any_due now [] = false
any_due now (p ∷ ps) = is_due now p || any_due now ps

abbrev pub looked : ℕ → Bool → Looked
looked place due = record { place = place; due = due }

abbrev pub unsound : Unsound
unsound = record {}

-- The place of s, which is 8 where it has none, and whether one is due; an error where B7 refuses the places.
unfoldable pub looked_up : ℕ → ℕ → List Place → Result Looked Unsound
looked_up s now ps = cond (sound ps) (Ok (looked (place_of s ps) (any_due now ps))) (Err unsound)
