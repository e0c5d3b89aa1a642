-- Document 01, demand 3, with C-14 of document 02: the order statement, over any way to handle a whole datagram and any
-- list of calls that each bring a time, and a frame or nothing more. W is what a datagram may change (memory and lock),
-- A the answer to a datagram, H the caller's errors, and C a call: what it brings, with whatever else the caller lends
-- for it, a reply buffer for one.
use Rattle.std.specs.Prelude.{ℕ, zero, suc, ◌+◌, ◌≤◌, ◌≡◌, Bool, true, false, cond, List, [], ◌∷◌, ◌++◌, map, length, take}
use Rattle.buffer.specs.Buffer.{Each}
use Rattle.can_frame.specs.declared.TransportRefusal.{TransportRefusal}
use Rattle.can_frame.specs.Frame.{CanFrame}
use Rattle.rx_place_spec.specs.Ticks.{tick_at}
use Rattle.rx_spec.specs.Books.{Book, blank, is_unfinished, Event, ignored, no_answer, refuse, finish}
use Rattle.rx_spec.specs.Times.{Input, frame_input, lone_tick, Timed, InTime, moments_of, book_of, events_of}
use Rattle.rx_place_spec.specs.State.{State}
use Rattle.rx_spec.specs.Reception.{sound, at_tick, receive, unfinished_for}

-- ---- a call handled

-- The answer to a call: an error of the caller, which is "never sent"; none, to an ignored frame; none; a transport
-- refusal; or what the datagram that the frame finishes is answered with.
pub data CallAnswer (H A : Type 0) : Type 0 where
  caller_error : H → CallAnswer H A
  ignored_frame : CallAnswer H A
  nothing : CallAnswer H A
  transport_refusal : TransportRefusal → CallAnswer H A
  handled : A → CallAnswer H A

-- What is left after a call, and its answer.
pub record FrameResult (H W A : Type 0) : Type 0 where
  pub state : State
  pub world : W
  pub answer : CallAnswer H A

abbrev pub frame_result : {H W A : Type 0} → State → W → CallAnswer H A → FrameResult H W A
frame_result st w a = record { state = st; world = w; answer = a }

-- What a frame brings about, answered: a finished datagram "is handled".
abbrev pub answer_event : {H W A : Type 0} → (W → List ℕ → A × W) → State → W → Event → FrameResult H W A
answer_event handle st w ignored = frame_result st w ignored_frame
answer_event handle st w no_answer = frame_result st w nothing
answer_event handle st w (refuse refusal) = frame_result st w (transport_refusal refusal)
answer_event handle st w (finish d) = let x = handle w d in frame_result st x.1 (handled x.0)

-- A frame at the tick `now`, and a tick that comes alone, at which what is due "is dropped without an answer": where
-- the call has no error of the caller, which is asked before.
unfoldable pub handle_frame : {H W A : Type 0} → (W → List ℕ → A × W) → ℕ → ℕ → State → W → CanFrame → FrameResult H W A
handle_frame handle alias now st w f = let j = receive alias now st f in answer_event handle j.state w j.event

unfoldable pub handle_tick : {H W A : Type 0} → ℕ → State → W → FrameResult H W A
handle_tick now st w = frame_result (at_tick now st) w nothing

-- What a call brings at a time, which comes to the board as a tick.
abbrev pub handle_input : {H W A : Type 0} → (W → List ℕ → A × W) → ℕ → State → W → ℕ → Input → FrameResult H W A
handle_input handle alias st w t (frame_input f) = handle_frame handle alias (tick_at t) st w f
handle_input handle alias st w t lone_tick = handle_tick (tick_at t) st w

-- ---- a list of calls

-- What is left after the calls, and the answer to each.
pub record CallsResult (H W A : Type 0) : Type 0 where
  pub state : State
  pub world : W
  pub answers : List (CallAnswer H A)

abbrev pub answer_first : {H W A : Type 0} → CallAnswer H A → CallsResult H W A → CallsResult H W A
answer_first a r = record { state = r.state; world = r.world; answers = a ∷ r.answers }

-- Each call made, by `one`, on what the call before left.
abbrev pub run_calls : {C H W A : Type 0} → (State → W → C → FrameResult H W A) → State → W → List C → CallsResult H W A
run_calls one st w [] = record { state = st; world = w; answers = [] }
run_calls one st w (c ∷ cs) = let r = one st w c in answer_first r.answer (run_calls one r.state r.world cs)

-- ---- calls that are accepted, and calls that are not refused

-- Whether the call is refused because of an error of the caller, by its answer.
abbrev pub is_caller_error : {H A : Type 0} → CallAnswer H A → Bool
is_caller_error (caller_error error) = true
is_caller_error ignored_frame = false
is_caller_error nothing = false
is_caller_error (transport_refusal refusal) = false
is_caller_error (handled a) = false

-- Whether a call brings a frame that is accepted: one that is joined or swallowed, so that it has no answer, or
-- finishes a datagram. An ignored frame, a transport refusal and an error of the caller accept nothing, and a lone tick
-- brings no frame.
abbrev pub accepts_frame : {H A : Type 0} → Input → CallAnswer H A → Bool
accepts_frame lone_tick a = false
accepts_frame (frame_input f) (caller_error error) = false
accepts_frame (frame_input f) ignored_frame = false
accepts_frame (frame_input f) nothing = true
accepts_frame (frame_input f) (transport_refusal refusal) = false
accepts_frame (frame_input f) (handled a) = true

-- The calls cs, each made on what the one before left, are such that "no house number refuses" them.
abbrev pub Unrefused : {C H W A : Type 0} → (State → W → C → FrameResult H W A) → State → W → List C → Type 0
Unrefused one st w [] = Unit {0}
Unrefused one st w (c ∷ cs) =
    let r = one st w c in (is_caller_error r.answer ≡ false) × Unrefused one r.state r.world cs

-- ---- what the books call for

-- The finished datagrams, in the order of their last frames.
abbrev pub datagrams_of : List Event → List (List ℕ)
datagrams_of [] = []
datagrams_of (ignored ∷ es) = datagrams_of es
datagrams_of (no_answer ∷ es) = datagrams_of es
datagrams_of (refuse refusal ∷ es) = datagrams_of es
datagrams_of (finish d ∷ es) = d ∷ datagrams_of es

-- The answers: each finished datagram "handled whole" on what the earlier ones left.
abbrev pub answers_to : {H W A : Type 0} → (W → List ℕ → A × W) → W → List Event → List (CallAnswer H A)
answers_to handle w [] = []
answers_to handle w (ignored ∷ es) = ignored_frame ∷ answers_to handle w es
answers_to handle w (no_answer ∷ es) = nothing ∷ answers_to handle w es
answers_to handle w (refuse refusal ∷ es) = transport_refusal refusal ∷ answers_to handle w es
answers_to handle w (finish d ∷ es) = let x = handle w d in handled x.0 ∷ answers_to handle x.1 es

-- What the datagrams leave, handled one after the other.
abbrev pub world_after : {W A : Type 0} → (W → List ℕ → A × W) → W → List (List ℕ) → W
world_after handle w [] = w
world_after handle w (d ∷ ds) = world_after handle (handle w d).1 ds

-- How many of the aliases below n are unfinished by their books.
unfoldable pub unfinished_below : ℕ → (ℕ → Book) → ℕ
unfinished_below zero book = 0
unfinished_below (suc n) book = cond (is_unfinished (book n)) 1 0 + unfinished_below n book

-- ---- the statement

-- The state that a list of calls starts from: one that B7 lets pass, of eight places, with 72 bytes for each, and
-- nothing unfinished.
pub record Fresh (st : State) : Type 0 where
  pub passes-b7 : sound st.places ≡ true
  pub eight : length st.places ≡ 8
  pub bytes : length st.pool ≡ 576
  pub nothing-unfinished : (s : ℕ) → unfinished_for st s ≡ blank

-- After each of the calls, with what it dropped, at most eight sources are unfinished by their books: an alias has 12
-- bits, so it is below 4,096.
abbrev pub AtMostEight : ℕ → List Timed → Type 0
AtMostEight alias cs = (n : ℕ) → unfinished_below 4096 (λ s. (book_of alias (take n cs) s).book) ≤ 8

-- The calls, made one after the other, give the answers that the books call for, by what the calls bring and when; they
-- leave what the finished datagrams leave; and "what the state has" for each source is what its book holds.
pub record InOrder {H W A : Type 0} (handle : W → List ℕ → A × W) (alias : ℕ) (w : W)
    (cs : List Timed) (r : CallsResult H W A) : Type 0 where
  pub answers : r.answers ≡ answers_to handle w (events_of alias cs)
  pub world : r.world ≡ world_after handle w (datagrams_of (events_of alias cs))
  pub unfinished : (s : ℕ) → unfinished_for r.state s ≡ (book_of alias cs s).book

-- The times of the calls.
abbrev pub times_of : {C : Type 0} → (C → Timed) → List C → List ℕ
times_of heard cs = map (λ c. (heard c).time) cs

-- What the order statement asks of the calls cs, made from the state st and the world w on, of which a book may hear
-- what `heard` gives: that the world is `Fit` (the description has no error with its memory, for one), and each call
-- `Fine` (its buffer is large enough, for one) and in time, "while at most eight tools are unfinished".
pub record Orderly {C W : Type 0} (heard : C → Timed) (Fine : C → Type 0) (Fit : W → Type 0) (alias : ℕ)
    (st : State) (w : W) (cs : List C) : Type 0 where
  pub fresh : Fresh st
  pub fit : Fit w
  pub fine : Each Fine cs
  pub in_time : InTime (moments_of alias (map heard cs))
  pub at_most_eight : AtMostEight alias (map heard cs)

-- The order statement of a call `one`.
abbrev pub OrderStatement :
    {C H W A : Type 0} → (C → Timed) → (C → Type 0) → (W → Type 0) → (W → List ℕ → A × W) → ℕ
    → (State → W → C → FrameResult H W A) → Type 0
OrderStatement {C} {H} {W} heard Fine Fit handle alias one =
    (st : State) (w : W) (cs : List C) → Orderly heard Fine Fit alias st w cs
    → InOrder handle alias w (map heard cs) (run_calls one st w cs)

-- ---- joining by itself

-- Each finished datagram is kept as it is: what is handed on, and in which order.
abbrev pub keep : List (List ℕ) → List ℕ → List ℕ × List (List ℕ)
keep ds d = (d, ds ++ d ∷ [])

-- A call of joining at an alias. Its one error is B7, "checked first at each call": "The state comes back as it was."
abbrev pub join_at : ℕ → State → List (List ℕ) → Timed → FrameResult (Unit {0}) (List (List ℕ)) (List ℕ)
join_at alias st ds c =
    cond (sound st.places) (handle_input keep alias st ds c.time c.input) (frame_result st ds (caller_error tt))

-- The order statement of these calls.
abbrev pub JoinOrder : Type 0
JoinOrder =
    (alias : ℕ)
    → OrderStatement (λ (c : Timed). c) (λ (c : Timed). Unit {0}) (λ (ds : List (List ℕ)). Unit {0})
    keep alias (join_at alias)
