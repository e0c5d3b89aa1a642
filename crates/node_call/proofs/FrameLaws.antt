-- Laws of the frame call over what joining gives.
-- Assumes nothing.
use Prim.Native.Nat.{ℕ, ◌≤◌}
use mathlib.Core.Path.{◌≡◌, refl, sym, ap, ◌∙◌}
use mathlib.Core.List.{List}
use Rattle.call_error.specs.CallErrors.{or_else, Checked, OrError}
use Rattle.call_error.specs.declared.CallError.{CallError}
use Rattle.can_frame.specs.Frame.{CanFrame}
use Rattle.rx_place_spec.specs.State.{State}
use Rattle.rx_spec.specs.Reception.{Joined, receive}
use Rattle.rx_spec.specs.Order.{FrameResult, frame_result, caller_error, answer_event, handle_frame}
use Rattle.rx_place_spec.specs.PlaceBytes.{places_in, state_in}
use Rattle.rx_place_spec.proofs.ByteLaws.{renewed-same}
use Rattle.rx_spec.proofs.InputLaws.{answered-state}
use Rattle.rx_join_spec.specs.StateCheck.{state_check}
use Rattle.rx_join_spec.specs.Joins.{CallEvent, event_of, InsidePool, JoinEnds}
use Rattle.rx_join_spec.specs.declared.Outcome.{Outcome}
use Rattle.rx_join_spec.specs.declared.Outcome.TheVariants as outcome
use Rattle.rx_join_spec.proofs.CheckLaws.{joined-done}
use Rattle.reply_answer.specs.Answers.{Result}
use Rattle.exec_spec.specs.Handling.{Fixed, Contents}
use Rattle.node_spec.specs.CallerErrors.{earlier_check, later_check, frame_check}
use Rattle.node_spec.specs.FrameCall.{handler, frame_call, Answers, answer_call, Keeps, SmallFrame, FrameChanges}
use Rattle.node_spec.specs.declared.FrameAnswer.{FrameAnswer}
use Rattle.node_spec.proofs.CallLaws.{call-refused, call-passed, earlier_passes, event-small, event-changes}
use Rattle.std.specs.Prelude.{Ok, Err}

module _ (x : Fixed) (buffer : List ℕ) (now : ℕ) (xs pool : List ℕ) (c : Contents) (f : CanFrame)
    (q : earlier_check x c buffer ≡ Ok tt) {later : Checked} (l : later ≡ later_check x c) {o : OrError Outcome} {after bytes : List ℕ}
    (g : JoinEnds (or_else (state_check (state_in xs pool)) later) (receive x.alias now (state_in xs pool) f) f.payload o xs after pool bytes) where
  abbrev st : State
  st = state_in xs pool

  abbrev call : FrameResult CallError Contents Result
  call = frame_call x buffer now st c f

  -- what is asked behind B6
  behind : frame_check x buffer st c ≡ or_else (state_check st) later
  behind = earlier_passes x buffer st c q ∙ ap (λ (y : Checked). or_else (state_check st) y) (sym l)

  -- what joining gave, answered, and what it left
  record Comes : Type 0 where
    answered : call ≡ answer_call x call.state c (event_of o f.payload bytes)
    kept : Keeps call xs after bytes

  comes : Comes
  unfolding handle_frame
  comes = go (or_else (state_check st) later) refl
    where
      go : (checked : Checked) → or_else (state_check st) later ≡ checked → Comes
      go (Ok tt) e =
          let j : Joined = receive x.alias now st f in
          let k : call ≡ answer_event (handler x) j.state c j.event = call-passed x buffer now st c f (behind ∙ e) in
          let s : call.state ≡ j.state = ap (λ (y : FrameResult CallError Contents Result). y.state) k ∙ answered-state CallError (handler x) j.state c j.event in
          let n = joined-done j f.payload o xs after bytes (g.joins e) in
          record {
            answered = k ∙ ap (λ (y : CallEvent). answer_call x j.state c y) (sym n.event) ∙ ap (λ (y : State). answer_call x y c (event_of o f.payload bytes)) (sym s);
            kept = rw s (record { places = n.places; renewal = n.renewal; pool = n.pool });
          }
      go (Err error) e =
          let k : call ≡ frame_result st c (caller_error error) = call-refused x buffer now st c f (behind ∙ e) in
          let n = g.refuses error e in
          record {
            answered = rw (k, n.result);
            kept = rw k (record { places = ap places_in n.places-stay; renewal = n.places-stay ∙ renewed-same xs; pool = n.pool-stays });
          }

  pub call-joined : call ≡ answer_call x call.state c (event_of o f.payload bytes)
  call-joined = comes.answered

  pub call-keeps : Keeps call xs after bytes
  call-keeps = comes.kept

  module _ {r : OrError FrameAnswer} {reply : List ℕ} {left : Contents} (p : Answers (answer_call x call.state c (event_of o f.payload bytes)) r buffer reply left) where
    pub call-small : SmallFrame r
    call-small = event-small x c call.state buffer q (event_of o f.payload bytes) p

    pub call-changes : FrameChanges r c.memory left.memory
    call-changes = event-changes x c call.state (event_of o f.payload bytes) p

pub inside-at : (o : Outcome) (from end : ℕ) → o ≡ outcome.InPool from end → InsidePool o → (from ≤ end) × (end ≤ 576)
inside-at o from end e i = rw e at i
