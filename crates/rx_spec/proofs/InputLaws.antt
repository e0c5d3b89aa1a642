-- What a call without an error of the caller does, by what it brings: what is due is dropped, and then a frame is joined.
-- Assumes nothing.
use Prim.Native.Nat.{ℕ}
use mathlib.Core.Path.{◌≡◌, refl, sym, ap, ◌∙◌}
use mathlib.Core.Bool.{true, false}
use mathlib.Core.List.{List}
use lib.ListN.{length}
use Rattle.buffer.proofs.Choice.{clash, by-test}
use Rattle.can_frame.specs.Frame.{CanFrame, source_of, role_of}
use Rattle.rx_place_spec.specs.Ticks.{tick_at}
use Rattle.rx_spec.specs.Books.{Event, ignored, no_answer, refuse, finish}
use Rattle.rx_spec.specs.Times.{Input, frame_input, lone_tick, Timed, is_accepted}
use Rattle.rx_place_spec.specs.State.{State}
use Rattle.rx_spec.specs.Reception.{sound, full, unfinished_for, at_tick, Joined, joined, join_sound, receive}
use Rattle.rx_spec.specs.Order.{FrameResult, frame_result, caller_error, answer_event, handle_frame, handle_tick, handle_input, Fresh, keep, join_at, is_caller_error, accepts_frame}
use Rattle.rx_spec.proofs.PlaceLaws.{Good}
use Rattle.rx_spec.proofs.StepLaws.{Sized, Step, entry_of, joins}
use Rattle.rx_spec.proofs.DropLaws.{good-due, sized_due}

-- the sizes at the start
pub fresh-sized : (st : State) → Fresh st → Sized st
fresh-sized st start = record { eight = cc; bytes = cc }

-- what comes of what a call brings
abbrev pub taken : ℕ → ℕ → State → Input → Joined
taken alias now st (frame_input f) =
    join_sound (role_of alias f.header (length f.payload)) (source_of f.header) f.payload now (at_tick now st)
taken alias now st lone_tick = joined (at_tick now st) no_answer

pub input-is : (H : Type 0) {W A : Type 0} (handle : W → List ℕ → A × W) (alias : ℕ) (st : State) (w : W) (t : ℕ) (i : Input) →
    handle_input {H = H} handle alias st w t i ≡ answer_event handle (taken alias (tick_at t) st i).state w (taken alias (tick_at t) st i).event
unfolding handle_frame handle_tick receive
input-is H handle alias st w t (frame_input f) = refl
input-is H handle alias st w t lone_tick = refl

pub receive-is : (alias now : ℕ) (st : State) (f : CanFrame) → receive alias now st f ≡ taken alias now st (frame_input f)
unfolding receive
receive-is alias now st f = refl

-- a frame after the drop
pub frame_step : (alias now : ℕ) (f : CanFrame) (st : State) → Good st.places → Sized st →
    Step now (at_tick now st) (source_of f.header) (taken alias now st (frame_input f))
    (entry_of (full (at_tick now st).places) (role_of alias f.header (length f.payload)) f.payload (unfinished_for (at_tick now st) (source_of f.header)))
frame_step alias now f st g z = joins alias now f (at_tick now st) (good-due now st.places g) (sized_due now st z)

-- ---- by the answer

module _ (H : Type 0) {W A : Type 0} (handle : W → List ℕ → A × W) where
  -- what a frame brings about is answered by no error of the caller
  event-unrefused : (st : State) (w : W) (e : Event) → is_caller_error (answer_event {H = H} handle st w e).answer ≡ false
  event-unrefused st w ignored = refl
  event-unrefused st w no_answer = refl
  event-unrefused st w (refuse refusal) = refl
  event-unrefused st w (finish d) = refl

  pub input-unrefused : (alias : ℕ) (st : State) (w : W) (t : ℕ) (i : Input) → is_caller_error (handle_input {H = H} handle alias st w t i).answer ≡ false
  input-unrefused alias st w t i =
      ap (λ (r : FrameResult H W A). is_caller_error r.answer) (input-is H handle alias st w t i)
      ∙ event-unrefused (taken alias (tick_at t) st i).state w (taken alias (tick_at t) st i).event

  -- a frame is accepted by its answer where it is by what it brought about
  pub accepted-is : (st : State) (w : W) (f : CanFrame) (e : Event) → accepts_frame (frame_input f) (answer_event {H = H} handle st w e).answer ≡ is_accepted e
  accepted-is st w f ignored = refl
  accepted-is st w f no_answer = refl
  accepted-is st w f (refuse refusal) = refl
  accepted-is st w f (finish d) = refl

  pub answered-state : (st : State) (w : W) (e : Event) → (answer_event {H = H} handle st w e).state ≡ st
  answered-state st w ignored = refl
  answered-state st w no_answer = refl
  answered-state st w (refuse refusal) = refl
  answered-state st w (finish d) = refl

-- ---- joining by itself

module _ (alias : ℕ) (st : State) (ds : List (List ℕ)) (c : Timed) where
  pub join-passed : sound st.places ≡ true → join_at alias st ds c ≡ handle_input keep alias st ds c.time c.input
  join-passed e = rw e

  join-refused : sound st.places ≡ false → join_at alias st ds c ≡ frame_result st ds (caller_error tt)
  join-refused e = rw e

  -- a call that is not refused: B7 lets the state pass, and what the call brings is handled
  pub join-unrefused : is_caller_error (join_at alias st ds c).answer ≡ false →
      (sound st.places ≡ true) × (join_at alias st ds c ≡ handle_input keep alias st ds c.time c.input)
  join-unrefused h =
      by-test (sound st.places) (λ e. (e, join-passed e))
      (λ e. clash (ap (λ (r : FrameResult (Unit {0}) (List (List ℕ)) (List ℕ)). is_caller_error r.answer) (sym (join-refused e)) ∙ h))

  -- one that is refused leaves the state
  pub join-keeps : is_caller_error (join_at alias st ds c).answer ≡ true → (join_at alias st ds c).state ≡ st
  join-keeps h =
      by-test (sound st.places)
      (λ e. clash (sym h ∙ ap (λ (r : FrameResult (Unit {0}) (List (List ℕ)) (List ℕ)). is_caller_error r.answer) (join-passed e)
      ∙ input-unrefused (Unit {0}) keep alias st ds c.time c.input))
      (λ e. ap (λ (r : FrameResult (Unit {0}) (List (List ℕ)) (List ℕ)). r.state) (join-refused e))
