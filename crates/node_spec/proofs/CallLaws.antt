-- Laws of the frame call and the tick call, and demand 3 of them.
-- Assumes nothing.
use Prim.Native.Nat.{ℕ, ◌≤◌}
use mathlib.Core.Path.{◌≡◌, refl, sym, ap, ◌∙◌}
use mathlib.Core.Bool.{true, false}
use mathlib.Core.List.{List}
use native.Mathlib.Omega.{arith}
use lib.ListN.{length}
use borrow.Author.Tests.{le-ltb}
use Rattle.call_error.specs.CallErrors.{or_else, unless_failed, Checked, OrError}
use Rattle.call_error.specs.declared.CallError.{CallError}
use Rattle.can_frame.specs.Frame.{CanFrame}
use Rattle.rx_place_spec.specs.State.{State}
use Rattle.rx_spec.specs.Reception.{sound}
use Rattle.rx_place_spec.specs.Ticks.{tick_at}
use Rattle.rx_spec.specs.Times.{frame_input, lone_tick}
use Rattle.rx_spec.specs.Order.{FrameResult, frame_result, caller_error, handle_frame, handle_tick, handle_input, is_caller_error}
use Rattle.rx_spec.specs.Books.{ignored, no_answer, refuse, finish}
use Rattle.rx_spec.proofs.Order.{order}
use Rattle.rx_spec.proofs.InputLaws.{input-unrefused}
use Rattle.rx_source_spec.proofs.Aging.{true-ages}
use Rattle.rx_source_spec.proofs.FreePlaces.{eight-free}
use Rattle.rx_source_spec.proofs.OneSource.{one-source}
use Rattle.buffer.proofs.Choice.{clash}
use Rattle.exec_spec.specs.Access.{Changes}
use Rattle.exec_spec.specs.Handling.{Fixed, Contents, handle, Performs}
use Rattle.exec_spec.proofs.HandlingLaws.{whole, handle-bounds}
use Rattle.call_error.proofs.Laws.{or_else_passed}
use Rattle.rx_join_spec.specs.StateCheck.{state_check}
use Rattle.rx_join_spec.specs.Joins.{CallEvent, refused_by, brings}
use Rattle.rx_join_spec.proofs.CheckLaws.{sound-passes, passed-sound}
use Rattle.node_spec.specs.CallerErrors.{earlier_check, later_check, frame_check, tick_check}
use Rattle.node_spec.proofs.DatagramLaws.{answer-small}
use Rattle.reply_answer.specs.Answers.{Result, answer_of, buffer_of}
use Rattle.reply_answer.specs.declared.Answer.{Answer}
use Rattle.reply_answer.specs.declared.Answer.TheVariants.{Rejected, Written, UpdateComplete, Replied}
use Rattle.node_spec.specs.FrameCall.{handler, frame_call, Answers, answer_call, SmallFrame, FrameChanges}
use Rattle.node_spec.specs.TickCall.{tick_call, tick_answer}
use Rattle.node_spec.specs.NodeOrder.{Call, frame_at, lone_tick_at, heard_of, BufferFits, make_call, MemoryFits, NodeOrder, OwnCall, make_own, NodeAging, NodeSource, NodeTheorems}
use Rattle.node_spec.specs.declared.FrameAnswer.{FrameAnswer}
use Rattle.node_spec.specs.declared.FrameAnswer.TheVariants.{Answered}
use Rattle.std.specs.Prelude.{Ok, Err}

-- ---- memory keeps its size

changes-size : (a : Answer) (old new : List ℕ) → Changes a old new → length new ≡ length old
changes-size (Rejected code) old new e = ap length e
changes-size (Written index n) old new w = w.size
changes-size UpdateComplete old new e = ap length e
changes-size (Replied n) old new e = ap length e

handle-keeps : (x : Fixed) (c : Contents) (d : List ℕ) → length (handle x c d).contents.memory ≡ length c.memory
handle-keeps x c d = changes-size (answer_of (handle x c d).result) c.memory (handle x c d).contents.memory (handle-bounds x c d).changes

-- ---- the frame call

-- a finished datagram, handled with a buffer that takes every reply
pub answers-finish : (x : Fixed) (c : Contents) (d buffer : List ℕ) → 72 ≤ length buffer → {r : Answer} {after : List ℕ} {left : Contents} →
    Performs (handle x c d) r buffer after left → (st : State) →
    Answers (answer_call x st c (brings (finish d))) (Ok (Answered r)) buffer after left
answers-finish x c d buffer h p st =
    let w = whole (handle x c d).result buffer p.short h in
    record {
      answer = ap (λ (a : Answer). Ok (Answered a)) (p.answer.answer ∙ ap answer_of w);
      reply = p.answer.buffer ∙ ap (λ y. buffer_of y buffer) w;
      contents = p.contents;
      short = p.short;
    }

-- the numbers of an answer, and what it says of memory

module _ (x : Fixed) (c : Contents) (st : State) {r : OrError FrameAnswer} {before after : List ℕ} {left : Contents} where
  pub event-small : (buffer : List ℕ) → earlier_check x c buffer ≡ Ok tt → (e : CallEvent) → Answers (answer_call x st c e) r before after left → SmallFrame r
  event-small buffer g (refused_by error) p = rw p.answer tt
  event-small buffer g (brings ignored) p = rw p.answer tt
  event-small buffer g (brings no_answer) p = rw p.answer tt
  event-small buffer g (brings (refuse refusal)) p = rw p.answer tt
  event-small buffer g (brings (finish d)) p = rw p.answer (answer-small x c d buffer g p.short)

  pub event-changes : (e : CallEvent) → Answers (answer_call x st c e) r before after left → FrameChanges r c.memory left.memory
  event-changes (refused_by error) p = rw p.answer (ap (λ (k : Contents). k.memory) p.contents)
  event-changes (brings ignored) p = rw p.answer (ap (λ (k : Contents). k.memory) p.contents)
  event-changes (brings no_answer) p = rw p.answer (ap (λ (k : Contents). k.memory) p.contents)
  event-changes (brings (refuse refusal)) p = rw p.answer (ap (λ (k : Contents). k.memory) p.contents)
  event-changes (brings (finish d)) p = rw (p.answer, p.contents) (handle-bounds x c d).changes

-- ---- a call by what its check finds

module _ (st : State) (c : Contents) (done : FrameResult CallError Contents Result) where
  abbrev checked_call : Checked → FrameResult CallError Contents Result
  checked_call checked = unless_failed checked (λ error. frame_result st c (caller_error error)) done

  -- one that is not refused has no error
  unrefused_passed : (checked : Checked) → is_caller_error (checked_call checked).answer ≡ false → checked ≡ Ok tt
  unrefused_passed (Ok u) h = refl
  unrefused_passed (Err error) h = clash h

  -- one that is refused has one, and leaves the reception state
  refused_stays : is_caller_error done.answer ≡ false → (checked : Checked) → is_caller_error (checked_call checked).answer ≡ true → (checked_call checked).state ≡ st
  refused_stays f (Ok u) h = clash (sym h ∙ f)
  refused_stays f (Err error) h = refl

module _ (x : Fixed) (buffer : List ℕ) (now : ℕ) (st : State) (c : Contents) (f : CanFrame) where
  pub call-refused : {error : CallError} → frame_check x buffer st c ≡ Err error → frame_call x buffer now st c f ≡ frame_result st c (caller_error error)
  unfolding frame_call
  call-refused e = rw e

  pub call-passed : frame_check x buffer st c ≡ Ok tt → frame_call x buffer now st c f ≡ handle_frame (handler x) x.alias now st c f
  unfolding frame_call
  call-passed e = rw e

module _ (x : Fixed) (buffer : List ℕ) (st : State) (c : Contents) where
  -- what comes before B7
  pub earlier_fails : {error : CallError} → earlier_check x c buffer ≡ Err error → frame_check x buffer st c ≡ Err error
  unfolding frame_check
  earlier_fails e = rw e

  pub earlier_passes : earlier_check x c buffer ≡ Ok tt → frame_check x buffer st c ≡ or_else (state_check st) (later_check x c)
  unfolding frame_check
  earlier_passes e = rw e

  -- a call that passes has a state that B7 lets pass
  frame-sound : frame_check x buffer st c ≡ Ok tt → sound st.places ≡ true
  unfolding frame_check
  frame-sound e =
      let behind = (or_else_passed (earlier_check x c buffer) (or_else (state_check st) (later_check x c)) e).1 in
      passed-sound st (or_else_passed (state_check st) (later_check x c) behind).0

-- ---- the tick call

pub tick-small : (heard : Checked) → SmallFrame (tick_answer heard)
tick-small (Ok u) = tt
tick-small (Err error) = tt

-- ---- demand 3

check-passed : (x : Fixed) (buffer : List ℕ) (st : State) (c : Contents) → MemoryFits x c → 72 ≤ length buffer → sound st.places ≡ true → frame_check x buffer st c ≡ Ok tt
unfolding frame_check earlier_check
check-passed x buffer st c g h ok = rw (g, le-ltb (length buffer) 72 h, sound-passes st ok)

-- a call with a buffer that is large enough, on a state that B7 lets pass, is not refused
fine-call : (x : Fixed) (st : State) (c : Contents) (k : Call) → sound st.places ≡ true → MemoryFits x c → BufferFits k →
    make_call x st c k ≡ handle_input (handler x) x.alias st c (heard_of k).time (heard_of k).input
unfolding tick_call tick_check
fine-call x st c (frame_at t f buffer) ok g h = call-passed x buffer (tick_at t) st c f (check-passed x buffer st c g (omega (arith, h)) ok)
fine-call x st c (lone_tick_at t) ok g h = rw (sound-passes st ok)

-- memory keeps its size, and with it the description its fitness
keeps-fit : (x : Fixed) (c : Contents) (d : List ℕ) → MemoryFits x c → MemoryFits x (handle x c d).contents
keeps-fit x c d g = rw (handle-keeps x c d) g

node_order : (x : Fixed) → NodeOrder x
node_order x = order heard_of BufferFits (MemoryFits x) (handler x) (keeps-fit x) x.alias (make_call x) (fine-call x)

-- ---- unfinished datagrams that grow old

unrefused_call : (x : Fixed) (st : State) (c : Contents) (k : Call) → is_caller_error (make_call x st c k).answer ≡ false →
    (sound st.places ≡ true) × (make_call x st c k ≡ handle_input (handler x) x.alias st c (heard_of k).time (heard_of k).input)
unfolding frame_call tick_call tick_check
unrefused_call x st c (frame_at t f buffer) h =
    let e = unrefused_passed st c (handle_frame (handler x) x.alias (tick_at t) st c f) (frame_check x buffer st c) h in
    (frame-sound x buffer st c e, call-passed x buffer (tick_at t) st c f e)
unrefused_call x st c (lone_tick_at t) h =
    let e = unrefused_passed st c (handle_tick (tick_at t) st c) (state_check st) h in
    (passed-sound st e, rw e)

-- one that is refused leaves the reception state
refused_call : (x : Fixed) (st : State) (c : Contents) (k : Call) → is_caller_error (make_call x st c k).answer ≡ true → (make_call x st c k).state ≡ st
unfolding frame_call tick_call
refused_call x st c (frame_at t f buffer) h =
    refused_stays st c (handle_frame (handler x) x.alias (tick_at t) st c f) (input-unrefused CallError (handler x) x.alias st c t (frame_input f)) (frame_check x buffer st c) h
refused_call x st c (lone_tick_at t) h =
    refused_stays st c (handle_tick (tick_at t) st c) (input-unrefused CallError (handler x) x.alias st c t lone_tick) (tick_check st) h

node_aging : (x : Fixed) → NodeAging x
node_aging x =
    record {
      ages = true-ages heard_of (handler x) x.alias (make_call x) (unrefused_call x);
      eight-free = eight-free (λ (k : OwnCall). heard_of k.call) (λ (k : OwnCall). handler k.fixed) (λ (k : OwnCall). k.fixed.alias)
          (λ (k : OwnCall) left. k.contents) make_own (λ st left k h. unrefused_call k.fixed st k.contents k.call h)
          (λ st left k h. refused_call k.fixed st k.contents k.call h);
    }

-- ---- one tool

node_source : (x : Fixed) → NodeSource x
node_source x = one-source heard_of (handler x) x.alias (make_call x) (unrefused_call x)

pub node_theorems : (x : Fixed) → NodeTheorems x
node_theorems x = record { order = node_order x; aging = node_aging x; source = node_source x }
