-- What the code gives back for a frame: the call is refused because of an error of the caller, or the frame is joined.
use Rattle.std.specs.Prelude.{ℕ, ◌*◌, ◌-◌, ◌≤◌, ◌≡◌, List, take, drop, Ok, Err, IsOkAnd}
use Rattle.can_frame.specs.declared.Role.{Role}
use Rattle.can_frame.specs.declared.Role.TheVariants.{Single, Last}
use Rattle.call_error.specs.declared.CallError.{CallError}
use Rattle.rx_spec.specs.Books.{Event, ignored, no_answer, refuse, finish}
use Rattle.rx_spec.specs.Reception.{Joined}
use Rattle.rx_place_spec.specs.PlaceBytes.{places_in, renewed}
use Rattle.rx_join_spec.specs.declared.Outcome.{Outcome}
use Rattle.rx_join_spec.specs.declared.Outcome.TheVariants as outcome
use Rattle.call_error.specs.CallErrors.{OrError, Checked}

-- What comes of a call for a frame: an error of the caller refuses it, or the frame brings something about.
pub data CallEvent : Type 0 where
  refused_by : CallError → CallEvent
  brings : Event → CallEvent

-- An outcome of the code, beside the frame's data and the pool that it speaks of.
abbrev pub outcome_event : Outcome → List ℕ → List ℕ → Event
outcome_event outcome.Ignored d bytes = ignored
outcome_event outcome.NoAnswer d bytes = no_answer
outcome_event (outcome.TransportRefusal refusal) d bytes = refuse refusal
outcome_event outcome.InFrame d bytes = finish d
outcome_event (outcome.InPool from end) d bytes = finish (take (end - from) (drop from bytes))

-- What the code gives back for a call.
abbrev pub event_of : OrError Outcome → List ℕ → List ℕ → CallEvent
event_of (Err error) d bytes = refused_by error
event_of (Ok o) d bytes = brings (outcome_event o d bytes)

-- A finished datagram in the pool lies inside it.
abbrev pub InsidePool : Outcome → Type 0
InsidePool outcome.Ignored = Unit {0}
InsidePool outcome.NoAnswer = Unit {0}
InsidePool (outcome.TransportRefusal refusal) = Unit {0}
InsidePool outcome.InFrame = Unit {0}
InsidePool (outcome.InPool from end) = (from ≤ end) × (end ≤ 576)

-- Where a finished datagram lies, by what its last frame is to the board and the place of its source: a Single's, which
-- is "a datagram, its own last frame", is the frame's data; a Last's is in the pool, from 72 times that place on.
abbrev pub Lies : Role → ℕ → Outcome → Type 0
Lies role i outcome.Ignored = Unit {0}
Lies role i outcome.NoAnswer = Unit {0}
Lies role i (outcome.TransportRefusal refusal) = Unit {0}
Lies role i outcome.InFrame = role ≡ Single
Lies role i (outcome.InPool from end) = (role ≡ Last) × (from ≡ 72 * i)

-- For a frame with the data d: the outcome o, the bytes of the places, which were `before` and are `after`, and the
-- bytes of the pool are what j says. A place that is changed gets its bytes anew, and every other keeps all of them.
pub record Joins (j : Joined) (d : List ℕ) (o : Outcome) (before after bytes : List ℕ) : Type 0 where
  pub places : places_in after ≡ j.state.places
  pub renewal : after ≡ renewed j.state.places before
  pub pool : bytes ≡ j.state.pool
  pub event : outcome_event o d bytes ≡ j.event
  pub inside : InsidePool o

-- The call is refused because of an error of the caller, and "nothing changes".
pub record Refuses (error : CallError) (o : OrError Outcome) (before after pool bytes : List ℕ) : Type 0 where
  pub result : o ≡ Err error
  pub places-stay : after ≡ before
  pub pool-stays : bytes ≡ pool

-- By what the checks of the caller's errors found: an error refuses the call, and where there is none the frame is
-- joined.
pub record JoinEnds (checked : Checked) (j : Joined) (d : List ℕ) (o : OrError Outcome)
    (before after pool bytes : List ℕ) : Type 0 where
  pub refuses : (error : CallError) → checked ≡ Err error → Refuses error o before after pool bytes
  pub joins : checked ≡ Ok tt → IsOkAnd o (λ done. Joins j d done before after bytes)
