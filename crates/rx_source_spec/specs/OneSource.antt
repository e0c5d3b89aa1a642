-- One tool and its book, whatever other tools send and however many they are, over any way to handle a call: with C-14
-- and C-15 of document 02. The order statement asks for at most eight unfinished tools. Here only the tool itself is
-- asked for something: that it was never refused with 0x2020. C is a call, W what a datagram may change, A the answer
-- to a datagram, H the caller's errors.
use Rattle.std.specs.Prelude.{ℕ, ◌≡◌, ◌≢◌, ◌⊎◌, Bool, true, false, List, [], ◌∷◌, ◌++◌, map, eqb, length}
use Rattle.can_frame.specs.declared.Role.{Role}
use Rattle.can_frame.specs.declared.Role.TheVariants.{Single, First, Middle, Last}
use Rattle.can_frame.specs.declared.TransportRefusal.{TransportRefusal}
use Rattle.can_frame.specs.declared.TransportRefusal.TheVariants.{BufferUnavailable}
use Rattle.can_frame.specs.Frame.{source_of}
use Rattle.rx_spec.specs.Books.{blank, holds, swallowing, is_unfinished, no_answer, refuse, entry, book_rule}
use Rattle.rx_spec.specs.Times.{Input, frame_input, lone_tick, Timed, Timely, hear_time, book_of, input_event}
use Rattle.rx_place_spec.specs.State.{State}
use Rattle.rx_spec.specs.Reception.{unfinished_for, full}
use Rattle.rx_spec.specs.Order.{transport_refusal, FrameResult, answer_event, run_calls, times_of, keep, join_at, Unrefused}

-- ---- what is asked for

-- The state that the calls start from: eight places, 72 bytes for each, and nothing unfinished for s. What there is for
-- other tools is left open.
pub record FreshFor (s : ℕ) (st : State) : Type 0 where
  pub eight : length st.places ≡ 8
  pub bytes : length st.pool ≡ 576
  pub nothing-unfinished : unfinished_for st s ≡ blank

-- Whether a call brings a frame of s.
abbrev pub is_from : ℕ → Input → Bool
is_from s (frame_input f) = eqb (source_of f.header) s
is_from s lone_tick = false

-- Of the calls cs, each made on what the one before left: none refuses s a First because "eight others have one". No
-- other frame is refused with this code, 0x2020.
abbrev pub Admitted :
    {C H W A : Type 0} → (C → Timed) → (State → W → C → FrameResult H W A) → ℕ → State → W → List C → Type 0
Admitted heard one s st w [] = Unit {0}
Admitted heard one s st w (c ∷ cs) =
    let r = one st w c in
    (is_from s (heard c).input ≡ true → r.answer ≢ transport_refusal BufferUnavailable)
    × Admitted heard one s r.state r.world cs

-- ---- the statement

-- A call that brings c, on what is w, gives r, and the calls before it brought `past`. A frame of s is answered as its
-- book says, and a datagram that its book finishes is "handled whole" on what is w; and "what the state has" for s is
-- what its book holds, whatever the call brought.
pub record ByItsBook {H W A : Type 0} (handle : W → List ℕ → A × W) (alias s : ℕ) (past : List Timed)
    (c : Timed) (w : W) (r : FrameResult H W A) : Type 0 where
  pub answer : is_from s c.input ≡ true
      → r ≡ answer_event handle r.state w (input_event alias past c.time c.input)
  pub unfinished : unfinished_for r.state s ≡ (book_of alias (past ++ c ∷ []) s).book

-- Or s is turned away: "First from a source with none unfinished while eight others have one: 0x2020, nothing opened."
-- The book of s was blank and now holds a datagram, which only a First brings about. The state has nothing for s, so
-- that the statement holds of the calls behind with a book begun anew.
pub record TurnedAway {H W A : Type 0} (handle : W → List ℕ → A × W) (alias s : ℕ) (past : List Timed)
    (c : Timed) (w : W) (r : FrameResult H W A) : Type 0 where
  pub blank-before : (hear_time c.time (book_of alias past s)).book ≡ blank
  pub unfinished-now : is_unfinished (book_of alias (past ++ c ∷ []) s).book ≡ true
  pub answer : r ≡ answer_event handle r.state w (refuse BufferUnavailable)
  pub eight-others : full r.state.places ≡ true
  pub nothing-opened : FreshFor s r.state

-- So it is of every call c after any calls `past`, where none is refused because of an error of the caller and their
-- times are as C-14 assumes, as long as s was not refused with 0x2020.
abbrev pub OneSource :
    {C H W A : Type 0} → (C → Timed) → (W → List ℕ → A × W) → ℕ → (State → W → C → FrameResult H W A) → Type 0
OneSource {C} {H} {W} heard handle alias one =
    (s : ℕ) (st : State) (w : W) (past : List C) (c : C) → FreshFor s st → Timely (times_of heard (past ++ c ∷ []))
    → Unrefused one st w (past ++ c ∷ []) → Admitted heard one s st w past
    → (let before = run_calls one st w past in
    let r = one before.state before.world c in
    ByItsBook handle alias s (map heard past) (heard c) before.world r
    ⊎ TurnedAway handle alias s (map heard past) (heard c) before.world r)

-- Of joining by itself, with each finished datagram kept as it is.
abbrev pub JoinOneSource : Type 0
JoinOneSource = (alias : ℕ) → OneSource (λ (c : Timed). c) keep alias (join_at alias)

-- ---- one rejection for one broken datagram

-- C-15, by the rules of the books alone. "After 0x2040 or 0x2000 to a source that had a datagram unfinished, unless the
-- refused frame was a Last", its book is swallowing. Then its Middles "are swallowed unanswered, empty ones too, until
-- its next Last, which is swallowed", and "A Single or First .. counts as if nothing were unfinished." With the
-- statement above this is what the tool hears.
pub record OneRejection : Type 0 where
  pub begins : (role : Role) (d b : List ℕ) (refusal : TransportRefusal) → role ≢ Last
      → (book_rule role d (holds b)).event ≡ refuse refusal → (book_rule role d (holds b)).book ≡ swallowing
  pub middle : (d : List ℕ) → book_rule Middle d swallowing ≡ entry swallowing no_answer
  pub last : (d : List ℕ) → book_rule Last d swallowing ≡ entry blank no_answer
  pub single : (d : List ℕ) → book_rule Single d swallowing ≡ book_rule Single d blank
  pub first : (d : List ℕ) → book_rule First d swallowing ≡ book_rule First d blank
