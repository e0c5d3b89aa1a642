-- C-14 of document 02: the tick call, "one call brings a tick alone, testing only B7, now and later".
use Rattle.std.specs.Prelude.{ℕ, List, ◌≡◌, Ok, Err}
use Rattle.buffer.specs.Lent.{LentBytes, before, after}
use Rattle.call_error.specs.CallErrors.{unless_failed, OrError, Checked}
use Rattle.call_error.specs.declared.CallError.{CallError}
use Rattle.rx_place_spec.specs.State.{State}
use Rattle.rx_place_spec.specs.PlaceBytes.{state_in}
use Rattle.rx_spec.specs.Order.{FrameResult, frame_result, caller_error, handle_tick}
use Rattle.reply_answer.specs.Answers.{Result}
use Rattle.exec_spec.specs.Handling.{Contents}
use Rattle.node_spec.specs.CallerErrors.{tick_check}
use Rattle.node_spec.specs.FrameCall.{frame_answer_of, Keeps}
use Rattle.node_spec.specs.declared.FrameAnswer.{FrameAnswer}
use Rattle.node_spec.specs.declared.FrameAnswer.TheVariants.{Nothing}

-- It asks for no description, no buffer and no memory, and so tests nothing of them. B7 comes first, and then what is
-- due is dropped.
unfoldable pub tick_call : ℕ → State → Contents → FrameResult CallError Contents Result
tick_call now st c =
    unless_failed (tick_check st) (λ error. frame_result st c (caller_error error)) (handle_tick now st c)

-- What the code gives back, as the frame call gives it: an error, or a tick that is not answered.
abbrev pub tick_answer : Checked → OrError FrameAnswer
tick_answer (Ok u) = Ok Nothing
tick_answer (Err error) = Err error

-- The answer r and the bytes of the places, which were `before` and are `after`, are what x says. The pool, memory and
-- the registers are not lent, and stay as they are.
pub record TickEnds (x : FrameResult CallError Contents Result) (r : OrError FrameAnswer) (before after pool : List ℕ) (c : Contents) : Type 0 where
  pub answer : r ≡ frame_answer_of x.answer
  pub keeps : Keeps x before after pool
  pub contents : c ≡ x.world

-- Everything that the caller finds after the tick call, whatever pool, memory and registers it keeps.
abbrev pub TickLeaves : LentBytes → ℕ → OrError FrameAnswer → Type 0
TickLeaves places tick r =
    (pool : List ℕ) (c : Contents) → TickEnds (tick_call tick (state_in (before places) pool) c) r (before places) (after places) pool c
