-- How the eight places lie in the 64 lent bytes: eight bytes for each place, in order.
--   byte 0      held, where it is not 0
--   byte 1      the length
--   bytes 2, 3  the source, least significant byte first
--   bytes 4, 5  the tick, least significant byte first
--   byte 6      its source is being swallowed, where it is not 0
--   byte 7      no meaning yet: not read, and 0 where a place is changed
use Rattle.std.specs.Prelude.{ℕ, zero, suc, ◌+◌, ◌*◌, ◌/◌, ◌%◌, Bool, cond, not, ◌&&◌, List, [], ◌∷◌, ◌++◌, eqb, take, drop, get_or, replicate}
use Rattle.buffer.specs.Lent.{LentBytes, before, after}
use Rattle.rx_place_spec.specs.declared.Place.{Place}
use Rattle.rx_place_spec.specs.Place.{place}
use Rattle.rx_place_spec.specs.State.{State, state}

-- The place that the first eight of the bytes stand for. A byte that is not 0 is true.
abbrev pub place_in : List ℕ → Place
place_in bytes =
    place (not (eqb (get_or bytes 0 0) 0)) (get_or bytes 1 0) (get_or bytes 2 0 + get_or bytes 3 0 * 256) (get_or bytes 4 0 + get_or bytes 5 0 * 256)
    (not (eqb (get_or bytes 6 0) 0))

-- The first n places.
abbrev pub places_from : ℕ → List ℕ → List Place
places_from zero bytes = []
places_from (suc n) bytes = place_in bytes ∷ places_from n (drop 8 bytes)

-- The eight places.
unfoldable pub places_in : List ℕ → List Place
places_in bytes = places_from 8 bytes

-- The reception state: the places in their bytes, and the pool.
abbrev pub state_in : List ℕ → List ℕ → State
state_in bytes pool = state (places_in bytes) pool

-- The state as a caller lends it.
abbrev pub state_before : LentBytes → LentBytes → State
state_before places pool = state_in (before places) (before pool)

abbrev pub state_after : LentBytes → LentBytes → State
state_after places pool = state_in (after places) (after pool)

-- The bytes at the start.
abbrev pub start_bytes : List ℕ
start_bytes = replicate 64 0

-- The bytes of a place that is changed.
abbrev pub place_bytes : Place → List ℕ
place_bytes p =
    cond p.held 1 0 ∷ p.len ∷ p.source % 256 ∷ p.source / 256 ∷ p.tick % 256 ∷ p.tick / 256 ∷ cond p.swallowing 1 0 ∷ 0 ∷ []

-- Whether two truths are the same, and whether a place is as it was.
abbrev pub same : Bool → Bool → Bool
same a b = cond a b (not b)

unfoldable pub same_place : Place → Place → Bool
same_place p q =
    same p.held q.held && (eqb p.len q.len && (eqb p.source q.source && (eqb p.tick q.tick && same p.swallowing q.swallowing)))

-- The bytes with their places changed to ps: a place that is as it was keeps all its bytes, and one that is changed
-- gets them anew.
abbrev pub renewed : List Place → List ℕ → List ℕ
renewed [] bytes = bytes
renewed (p ∷ ps) bytes = cond (same_place (place_in bytes) p) (take 8 bytes) (place_bytes p) ++ renewed ps (drop 8 bytes)
