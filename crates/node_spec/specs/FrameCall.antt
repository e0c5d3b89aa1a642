-- The frame call: the caller's errors at every call, joining, and a finished datagram handled whole.
use Rattle.std.specs.Prelude.{ℕ, List, ◌≡◌, Ok, Err}
use Rattle.buffer.specs.Lent.{LentBytes, GivenBytes, before, after, given}
use Rattle.call_error.specs.CallErrors.{unless_failed, OrError}
use Rattle.call_error.specs.declared.CallError.{CallError}
use Rattle.can_frame.specs.Frame.{CanFrame, can_frame}
use Rattle.can_frame.specs.Refusal.{refusal_code}
use Rattle.rx_place_spec.specs.State.{State}
use Rattle.rx_spec.specs.Order as order
use Rattle.rx_spec.specs.Order.{FrameResult, frame_result, caller_error, ignored_frame, nothing, transport_refusal, handled, answer_event, handle_frame}
use Rattle.rx_place_spec.specs.PlaceBytes.{places_in, state_before, renewed}
use Rattle.rx_join_spec.specs.Joins.{CallEvent, refused_by, brings}
use Rattle.reply_answer.specs.Answers.{Result, answer_of, buffer_of, SmallAnswer}
use Rattle.exec_spec.specs.Access.{Changes}
use Rattle.exec_spec.specs.Handling.{Fixed, Contents, handle, Short}
use Rattle.exec_spec.specs.LentBoard.{contents_before, contents_after}
use Rattle.node_spec.specs.CallerErrors.{frame_check}
use Rattle.node_spec.specs.declared.FrameAnswer.{FrameAnswer}
use Rattle.node_spec.specs.declared.FrameAnswer.TheVariants as answer

-- ---- the call

-- "Handled whole: the rules .. applied to the datagram, description, flash, memory and lock": the answer, and what is
-- left.
abbrev pub handler : Fixed → Contents → List ℕ → Result × Contents
handler x c d = let o = handle x c d in (o.result, o.contents)

-- The errors of the caller come first, and "nothing changes"; then what is due at the tick `now` is dropped, the frame
-- is joined, and a finished datagram handled.
unfoldable pub frame_call : Fixed → List ℕ → ℕ → State → Contents → CanFrame → FrameResult CallError Contents Result
frame_call x buffer now st c f =
    unless_failed (frame_check x buffer st c)
    (λ error. frame_result st c (caller_error error))
    (handle_frame (handler x) x.alias now st c f)

-- ---- what the code gives back

-- An answer as the code gives it: the reply's bytes are in the buffer.
abbrev pub frame_answer_of : order.CallAnswer CallError Result → OrError FrameAnswer
frame_answer_of (caller_error error) = Err error
frame_answer_of ignored_frame = Ok answer.Ignored
frame_answer_of nothing = Ok answer.Nothing
frame_answer_of (transport_refusal refusal) = Ok (answer.TransportRefusal (refusal_code refusal))
frame_answer_of (handled r) = Ok (answer.Answered (answer_of r))

-- The reply buffer afterwards: untouched but for a reply.
abbrev pub frame_buffer_of : order.CallAnswer CallError Result → List ℕ → List ℕ
frame_buffer_of (caller_error error) buffer = buffer
frame_buffer_of ignored_frame buffer = buffer
frame_buffer_of nothing buffer = buffer
frame_buffer_of (transport_refusal refusal) buffer = buffer
frame_buffer_of (handled r) buffer = buffer_of r buffer

-- "No reply is over 72 bytes", and a write has "1–64 data bytes".
abbrev pub ShortFrame : order.CallAnswer CallError Result → Type 0
ShortFrame (caller_error error) = Unit {0}
ShortFrame ignored_frame = Unit {0}
ShortFrame nothing = Unit {0}
ShortFrame (transport_refusal refusal) = Unit {0}
ShortFrame (handled r) = Short r

-- The answer r, the buffer `after` and the contents `left` are what x says, over the buffer `before`.
pub record Answers (x : FrameResult CallError Contents Result) (r : OrError FrameAnswer)
    (before after : List ℕ) (left : Contents) : Type 0 where
  pub answer : r ≡ frame_answer_of x.answer
  pub reply : after ≡ frame_buffer_of x.answer before
  pub contents : left ≡ x.world
  pub short : ShortFrame x.answer

-- What comes of joining, answered: an error of the caller, which "nothing changes", or what the frame brings about.
abbrev pub answer_call : Fixed → State → Contents → CallEvent → FrameResult CallError Contents Result
answer_call x st c (refused_by error) = frame_result st c (caller_error error)
answer_call x st c (brings e) = answer_event (handler x) st c e

-- It is answered so, whatever is left of the reception state, with memory, registers and reply buffer as they are lent.
abbrev pub AnswersCall : Fixed → CallEvent → OrError FrameAnswer → LentBytes → LentBytes → LentBytes → Type 0
AnswersCall x e r memory registers reply =
    (st : State) →
    Answers (answer_call x st (contents_before memory registers) e) r (before reply) (after reply)
    (contents_after memory registers)

-- How large the numbers of an answer are.
abbrev pub SmallFrame : OrError FrameAnswer → Type 0
SmallFrame (Err error) = Unit {0}
SmallFrame (Ok answer.Ignored) = Unit {0}
SmallFrame (Ok answer.Nothing) = Unit {0}
SmallFrame (Ok (answer.TransportRefusal code)) = Unit {0}
SmallFrame (Ok (answer.Answered a)) = SmallAnswer a

-- Memory, which was `old` and is `new`, by the answer: only a finished datagram changes it, in the bytes that its
-- answer names.
abbrev pub FrameChanges : OrError FrameAnswer → List ℕ → List ℕ → Type 0
FrameChanges (Err error) old new = new ≡ old
FrameChanges (Ok answer.Ignored) old new = new ≡ old
FrameChanges (Ok answer.Nothing) old new = new ≡ old
FrameChanges (Ok (answer.TransportRefusal code)) old new = new ≡ old
FrameChanges (Ok (answer.Answered a)) old new = Changes a old new

-- The bytes of the places, which were `before` and are `after`, and the pool are what x says. A place that is changed
-- gets its bytes anew, and every other keeps all of them.
pub record Keeps (x : FrameResult CallError Contents Result) (before after bytes : List ℕ) : Type 0 where
  pub places : places_in after ≡ x.state.places
  pub renewal : after ≡ renewed x.state.places before
  pub pool : bytes ≡ x.state.pool

-- Everything that the caller finds after the frame call, of what it lent and handed in.
module _ (x : Fixed) (memory registers pool places : LentBytes)
    (tick header : ℕ) (payload : GivenBytes) (reply : LentBytes) where
  abbrev pub lent_frame_call : FrameResult CallError Contents Result
  lent_frame_call =
      frame_call x (before reply) tick (state_before places pool)
      (contents_before memory registers) (can_frame header (given payload))

  pub record FrameEnds (r : OrError FrameAnswer) : Type 0 where
    pub answers : Answers lent_frame_call r (before reply) (after reply) (contents_after memory registers)
    pub keeps : Keeps lent_frame_call (before places) (after places) (after pool)
    pub small : SmallFrame r
    pub changes : FrameChanges r (before memory) (after memory)
