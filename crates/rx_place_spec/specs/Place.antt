-- A place of the reception state, with C-14 and C-15 of document 02. It is free; or it is held for a source, whose
-- unfinished datagram it keeps, or of which it keeps only that it is being swallowed: "its place is kept, and that
-- source's Middles are swallowed unanswered".
use Rattle.std.specs.Prelude.{ℕ, Bool, true, false}
use Rattle.rx_place_spec.specs.declared.Place.{Place}

abbrev pub place : Bool → ℕ → ℕ → ℕ → Bool → Place
place held len source tick swallowing = record { held = held; len = len; source = source; tick = tick; swallowing = swallowing }

-- A place with n bytes of the source s, whose last accepted frame came at the tick t; one of a source s that is being
-- swallowed; and a free one.
abbrev pub held_for : ℕ → ℕ → ℕ → Place
held_for s n t = place true n s t false

abbrev pub swallowing_for : ℕ → ℕ → Place
swallowing_for s t = place true 0 s t true

abbrev pub free_place : Place
free_place = place false 0 0 0 false
