-- Document 01, "Joining frames", 0x2040, 0x2000 and 0x2020 of "Refused because of the state", and B7, with C-14 and
-- C-15 of document 02: the reception state, what a tick drops, and a frame joined to it or swallowed.
use Rattle.std.specs.Prelude.{ℕ, suc, ◌+◌, ◌*◌, Bool, true, false, cond, not, ◌&&◌, ◌||◌, List, [], ◌∷◌, ◌++◌, leb, eqb, length, take, drop, get_or, set}
use Rattle.buffer.specs.Buffer.{put_at}
use Rattle.can_frame.specs.declared.Role.{Role}
use Rattle.can_frame.specs.declared.Role.TheVariants.{Ignored, Single, First, Middle, Last}
use Rattle.can_frame.specs.declared.TransportRefusal.TheVariants.{OutOfOrder, TemporaryError, BufferUnavailable}
use Rattle.can_frame.specs.Frame.{CanFrame, source_of, role_of}
use Rattle.rx_place_spec.specs.declared.Place.{Place}
use Rattle.rx_place_spec.specs.Place.{held_for, swallowing_for, free_place}
use Rattle.rx_place_spec.specs.Ticks.{drop_due}
pub use Rattle.rx_place_spec.specs.State.{State, state}
use Rattle.rx_spec.specs.Books.{Book, blank, holds, swallowing, Event, ignored, no_answer, refuse, finish, fits}

-- ---- the state

-- "A tool is known by its source alias alone."
unfoldable pub is_for : ℕ → Place → Bool
is_for s p = p.held && eqb p.source s

-- What a held place has for its source, where its bytes lie at the front of the pool: the bytes of the unfinished
-- datagram, or "only that it is being swallowed".
unfoldable pub kept_in : Place → List ℕ → Book
kept_in p pool = cond p.swallowing swallowing (holds (take p.len pool))

-- "What the state has for a tool is the bytes of the unfinished datagram kept in it for that source, or nothing where
-- it keeps none"
abbrev pub unfinished_in : List Place → List ℕ → ℕ → Book
unfinished_in [] pool s = blank
unfinished_in (p ∷ ps) pool s = cond (is_for s p) (kept_in p pool) (unfinished_in ps (drop 72 pool) s)

abbrev pub unfinished_for : State → ℕ → Book
unfinished_for st s = unfinished_in st.places st.pool s

-- The first place of s, and the first free one: the number of places where there is none.
abbrev pub place_of : ℕ → List Place → ℕ
place_of s [] = 0
place_of s (p ∷ ps) = cond (is_for s p) 0 (suc (place_of s ps))

abbrev pub free_in : List Place → ℕ
free_in [] = 0
free_in (p ∷ ps) = cond p.held (suc (free_in ps)) 0

-- Whether s has a place, and whether "eight others have one": "C-14's drop, 0x2020 and B7 count such places too", those
-- of sources that are being swallowed.
abbrev pub has_place : ℕ → List Place → Bool
has_place s [] = false
has_place s (p ∷ ps) = is_for s p || has_place s ps

abbrev pub full : List Place → Bool
full [] = true
full (p ∷ ps) = p.held && full ps

-- ---- B7

-- "an unfinished datagram in it over 72 bytes, a source over 4,095, or one source twice": not so of the held place p
-- beside the places ps. One whose source is being swallowed holds no datagram, so nothing is asked of its length.
abbrev pub sound_beside : List Place → Place → Bool
sound_beside ps p = (p.swallowing || leb p.len 72) && (leb p.source 4095 && not (has_place p.source ps))

-- Each place beside those behind it. A free place holds no datagram, so nothing is asked of its length and source; of
-- ticks nothing is asked.
abbrev pub sound : List Place → Bool
sound [] = true
sound (p ∷ ps) = (not p.held || sound_beside ps p) && sound ps

-- ---- a tick

-- The state with what is due at the tick `now` dropped: "Before any frame, even an ignored one, is looked at, and at a
-- lone tick". What the pool holds of it stays, and means nothing.
abbrev pub at_tick : ℕ → State → State
at_tick now st = state (drop_due now st.places) st.pool

-- ---- a frame joined

-- Place i becomes p, and d is put behind the first k of its 72 bytes.
abbrev pub stored : ℕ → Place → ℕ → List ℕ → State → State
stored i p k d st = state (set st.places i p) (put_at (72 * i + k) d st.pool)

-- How many bytes place i holds, and these bytes.
abbrev pub size_at : ℕ → List Place → ℕ
size_at i ps = (get_or ps i free_place).len

abbrev pub bytes_of_place : ℕ → State → List ℕ
bytes_of_place i st = take (size_at i st.places) (drop (72 * i) st.pool)

-- The unfinished datagram in place i "is dropped"; "freed room is used again".
abbrev pub dropped : ℕ → State → State
dropped i st = state (set st.places i free_place) st.pool

-- "First: opens one.", in place i and at the tick `now`
abbrev pub opened : ℕ → List ℕ → ℕ → ℕ → State → State
opened s d now i st = stored i (held_for s (length d) now) 0 d st

-- "Middle: appends.": it is the last accepted frame from now on
abbrev pub appended : ℕ → List ℕ → ℕ → ℕ → State → State
appended s d now i st = stored i (held_for s (size_at i st.places + length d) now) (size_at i st.places) d st

-- "Last: appends, closes"
abbrev pub closed : List ℕ → ℕ → State → State
closed d i st = stored i free_place (size_at i st.places) d st

-- Place i is kept for s, which is being swallowed, and whose last accepted frame came at the tick `tick`. Nothing is
-- left of its datagram.
abbrev pub swallowed : ℕ → ℕ → ℕ → State → State
swallowed s tick i st = state (set st.places i (swallowing_for s tick)) st.pool

-- "its place is kept": after a refused frame, which is not an accepted one, so that the tick stays.
abbrev pub kept_after_refusal : ℕ → ℕ → State → State
kept_after_refusal s i st = swallowed s (get_or st.places i free_place).tick i st

-- The state after a frame, and what the frame brings about.
pub record Joined : Type 0 where
  pub state : State
  pub event : Event

abbrev pub joined : State → Event → Joined
joined st e = record { state = st; event = e }

-- A Middle and a Last for the datagram b in place i. "Middle or Last that takes the total past 72 bytes: 0x2000,
-- dropped", and what follows the Middle is swallowed.
abbrev pub middle_at : ℕ → ℕ → ℕ → List ℕ → List ℕ → State → Joined
middle_at s now i b d st = cond (fits b d) (joined (appended s d now i st) no_answer) (joined (kept_after_refusal s i st) (refuse TemporaryError))

abbrev pub last_at : ℕ → List ℕ → List ℕ → State → Joined
last_at i b d st = cond (fits b d) (joined (closed d i st) (finish (b ++ d))) (joined (dropped i st) (refuse TemporaryError))

-- The rules, by what the frame is to the board, its source and data, and what the state has for that source. "Single,
-- none unfinished from that source: a datagram, its own last frame." "Single or First while that source has one
-- unfinished; an empty Middle; Middle or Last with none unfinished: 0x2040, and that source's unfinished datagram, if
-- any, is dropped." "First from a source with none unfinished while eight others have one: 0x2020, nothing opened." "An
-- empty Middle is tested before the total." "After 0x2040 or 0x2000 to a source that had a datagram unfinished, unless
-- the refused frame was a Last, its place is kept, and that source's Middles are swallowed unanswered, empty ones too,
-- until its next Last, which is swallowed and frees the place. A Single or First frees it and counts as if nothing were
-- unfinished." A First then opens a datagram in the place that it frees.
abbrev pub join_rule : Role → ℕ → List ℕ → ℕ → State → Book → Joined
join_rule Ignored s d now st b = joined st ignored
join_rule Single s d now st blank = joined st (finish d)
join_rule Single s d now st (holds b) = joined (kept_after_refusal s (place_of s st.places) st) (refuse OutOfOrder)
join_rule Single s d now st swallowing = joined (dropped (place_of s st.places) st) (finish d)
join_rule First s d now st blank = cond (full st.places) (joined st (refuse BufferUnavailable)) (joined (opened s d now (free_in st.places) st) no_answer)
join_rule First s d now st (holds b) = joined (kept_after_refusal s (place_of s st.places) st) (refuse OutOfOrder)
join_rule First s d now st swallowing = joined (opened s d now (place_of s st.places) st) no_answer
join_rule Middle s d now st blank = joined st (refuse OutOfOrder)
join_rule Middle s d now st (holds b) =
    cond (eqb (length d) 0) (joined (kept_after_refusal s (place_of s st.places) st) (refuse OutOfOrder)) (middle_at s now (place_of s st.places) b d st)
join_rule Middle s d now st swallowing = joined (swallowed s now (place_of s st.places) st) no_answer
join_rule Last s d now st blank = joined st (refuse OutOfOrder)
join_rule Last s d now st (holds b) = last_at (place_of s st.places) b d st
join_rule Last s d now st swallowing = joined (dropped (place_of s st.places) st) no_answer

-- A frame of a known role joined, at the tick `now`, to a state that B7 lets pass and in which nothing is due.
unfoldable pub join_sound : Role → ℕ → List ℕ → ℕ → State → Joined
join_sound role s d now st = join_rule role s d now st (unfinished_for st s)

-- A frame received at the tick `now`, by a state that B7 lets pass: the caller's errors are asked before, and none is
-- asked here. What is due is dropped, and then the frame is looked at.
unfoldable pub receive : ℕ → ℕ → State → CanFrame → Joined
receive alias now st f =
    join_sound (role_of alias f.header (length f.payload)) (source_of f.header) f.payload now (at_tick now st)

-- Frames joined one after the other, each at its tick and to the state that the one before left: what each brings
-- about. A state that B7 refuses receives none.
abbrev pub receive_all : ℕ → State → List ℕ → List CanFrame → List Event
receive_all alias st [] fs = []
receive_all alias st (now ∷ ticks) [] = []
receive_all alias st (now ∷ ticks) (f ∷ fs) =
    cond (sound st.places) (let j = receive alias now st f in j.event ∷ receive_all alias j.state ticks fs) []
