-- The reception state, of document 01, "Joining frames": places, and the bytes of unfinished datagrams.
use Rattle.std.specs.Prelude.{ℕ, List, replicate}
use Rattle.rx_place_spec.specs.declared.Place.{Place}
use Rattle.rx_place_spec.specs.Place.{free_place}

-- Eight places, and the pool that holds their bytes, 72 for each: "Up to eight sources may each have one unfinished
-- datagram".
pub record State : Type 0 where
  pub places : List Place
  pub pool : List ℕ

abbrev pub state : List Place → List ℕ → State
state ps pool = record { places = ps; pool = pool }

-- The places at the start.
abbrev pub empty_places : List Place
empty_places = replicate 8 free_place
