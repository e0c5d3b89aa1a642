-- C-14 of document 02: that the wrapping age is the true age, and that "once frames stop being accepted, the first such
-- call more than 3,000 ticks after the last accepted one has eight free places before its frame", over any way to
-- handle a call. C is a call, W what a datagram may change, A the answer to a datagram, H the caller's errors.
use Rattle.std.specs.Prelude.{ℕ, ◌+◌, ◌<◌, ◌≡◌, Bool, true, false, cond, ◌&&◌, List, [], ◌∷◌, eqb, length}
use Rattle.buffer.specs.Buffer.{Each}
use Rattle.can_frame.specs.Frame.{source_of}
use Rattle.rx_place_spec.specs.declared.Place.{Place}
use Rattle.rx_place_spec.specs.Ticks.{tick_at, age}
use Rattle.rx_spec.specs.Books.{is_unfinished}
use Rattle.rx_spec.specs.Times.{Input, frame_input, lone_tick, Timed, Moment, moment, InTime}
use Rattle.rx_place_spec.specs.State.{State}
use Rattle.rx_spec.specs.Reception.{unfinished_for, at_tick}
use Rattle.rx_spec.specs.Order.{CallAnswer, FrameResult, run_calls, Fresh, join_at, is_caller_error, accepts_frame, Unrefused}

-- ---- the wrapping age is the true age

-- Whether a call accepts a frame of the source s.
abbrev pub accepts_from : {H A : Type 0} → ℕ → Input → CallAnswer H A → Bool
accepts_from s lone_tick a = false
accepts_from s (frame_input f) a = eqb (source_of f.header) s && accepts_frame (frame_input f) a

-- The time of the last of the calls cs that accepted a frame of s: where there is none, `before`.
abbrev pub last_from : {C H W A : Type 0} → (C → Timed) → (State → W → C → FrameResult H W A) → ℕ → ℕ → State → W → List C → ℕ
last_from heard one s before st w [] = before
last_from heard one s before st w (c ∷ cs) =
    let r = one st w c in
    last_from heard one s (cond (accepts_from s (heard c).input r.answer) (heard c).time before) r.state r.world cs

-- The calls cs that no error of the caller refuses, each made on what the one before left, and then a call at the time
-- t: the moment of each, with what the state has unfinished before it.
abbrev pub moments_to :
    {C H W A : Type 0} → ℕ → (C → Timed) → (State → W → C → FrameResult H W A) → State → W → List C → List Moment
moments_to t heard one st w [] = moment t (unfinished_for st) ∷ []
moments_to t heard one st w (c ∷ cs) =
    let r = one st w c in
    let later = moments_to t heard one r.state r.world cs in
    cond (is_caller_error r.answer) later (moment (heard c).time (unfinished_for st) ∷ later)

-- From a state with nothing unfinished on: of each place that is held after the calls cs, the age that a call at the
-- time t reckons is the time since its source's last accepted frame, though that age is the difference of two ticks of
-- 16 bits.
abbrev pub TrueAges : {C H W A : Type 0} → (C → Timed) → (State → W → C → FrameResult H W A) → Type 0
TrueAges {C} {H} {W} heard one =
    (st : State) (w : W) (cs : List C) (t : ℕ) → Fresh st → InTime (moments_to t heard one st w cs)
    → Unrefused one st w cs
    → Each (λ (p : Place). p.held ≡ true → last_from heard one p.source 0 st w cs + age (tick_at t) p.tick ≡ t) (run_calls one st w cs).state.places

-- ---- eight free places

-- The time x is more than 3,000 ticks before the time t.
abbrev pub FarBefore : ℕ → ℕ → Type 0
FarBefore t x = x + 3000 < t

-- P of the time of each of the calls cs that accepts a frame.
abbrev pub EachAccepted : {C H W A : Type 0} → (ℕ → Type 0) → (C → Timed) → (State → W → C → FrameResult H W A) → State → W → List C → Type 0
EachAccepted P heard one st w [] = Unit {0}
EachAccepted P heard one st w (c ∷ cs) =
    let r = one st w c in
    (accepts_frame (heard c).input r.answer ≡ true → P (heard c).time) × EachAccepted P heard one r.state r.world cs

-- How many places are free.
abbrev pub free_count : List Place → ℕ
free_count [] = 0
free_count (p ∷ ps) = cond p.held 0 1 + free_count ps

-- Any state that can be lent: eight places, each with a tick of 16 bits, and 72 bytes for each. B7 may refuse it.
pub record AnyState (st : State) : Type 0 where
  pub eight : length st.places ≡ 8
  pub bytes : length st.pool ≡ 576
  pub ticks : Each (λ (p : Place). p.tick < 65536) st.places

-- P of the time of the first.
abbrev pub FirstAt : (ℕ → Type 0) → List Moment → Type 0
FirstAt P [] = ⊥
FirstAt P (m ∷ ms) = P m.time

-- "Assume fewer than 62,000 ticks between calls that bring a tick and that no house number refuses, each with the state
-- that the one before left. Show that once frames stop being accepted, the first such call more than 3,000 ticks after
-- the last accepted one has eight free places before its frame.": from any state on, after the calls cs, of which each
-- that accepts a frame is more than 3,000 ticks before the time t, a call at t has eight free places before its frame:
-- whatever tools sent, however many of their frames were refused or ignored, whatever lone ticks came, and whatever
-- calls were refused because of an error of the caller, at any times. What is unfinished at the start was accepted
-- before the first call that is not refused: then that call is as long before t.
abbrev pub EightFree : {C H W A : Type 0} → (C → Timed) → (State → W → C → FrameResult H W A) → Type 0
EightFree {C} {H} {W} heard one =
    (st : State) (w : W) (cs : List C) (t : ℕ) → AnyState st → InTime (moments_to t heard one st w cs)
    → ((s : ℕ) → is_unfinished (unfinished_for st s) ≡ true → FirstAt (FarBefore t) (moments_to t heard one st w cs))
    → EachAccepted (FarBefore t) heard one st w cs → free_count (at_tick (tick_at t) (run_calls one st w cs).state).places ≡ 8

-- ---- joining by itself

-- A call that brings the board's alias itself.
pub record JoinCall : Type 0 where
  pub alias : ℕ
  pub call : Timed

-- Both: the ages at one alias, and eight free places though each call bring its own, with nothing handed on but the
-- reception state.
pub record JoinAging : Type 0 where
  pub ages : (alias : ℕ) → TrueAges (λ (c : Timed). c) (join_at alias)
  pub eight-free : EightFree (λ (k : JoinCall). k.call) (λ st ds (k : JoinCall). join_at k.alias st [] k.call)
