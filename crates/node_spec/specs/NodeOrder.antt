-- Demand 3 of document 01, with C-14 and C-15 of document 02: the calls of a driver, the order statement over a list of
-- them, what becomes of unfinished datagrams that grow old, and that each tool is answered by its book.
use Rattle.std.specs.Prelude.{ℕ, ◌≤◌, List, ◌≡◌, length, Ok}
use Rattle.call_error.specs.CallErrors.{description_check}
use Rattle.call_error.specs.declared.CallError.{CallError}
use Rattle.can_frame.specs.Frame.{CanFrame}
use Rattle.rx_place_spec.specs.Ticks.{tick_at}
use Rattle.rx_spec.specs.Times.{frame_input, lone_tick, Timed, timed}
use Rattle.rx_place_spec.specs.State.{State}
use Rattle.rx_spec.specs.Order.{FrameResult, Orderly, OrderStatement}
use Rattle.rx_source_spec.specs.Aging.{TrueAges, EightFree}
use Rattle.rx_source_spec.specs.OneSource.{OneSource}
use Rattle.reply_answer.specs.Answers.{Result}
use Rattle.exec_spec.specs.Handling.{Fixed, Contents}
use Rattle.node_spec.specs.FrameCall.{handler, frame_call}
use Rattle.node_spec.specs.TickCall.{tick_call}

-- A call of the driver at a time: a frame, and the reply buffer lent for it; or a tick alone.
pub data Call : Type 0 where
  frame_at : ℕ → CanFrame → List ℕ → Call
  lone_tick_at : ℕ → Call

-- What the books may hear of it.
abbrev pub heard_of : Call → Timed
heard_of (frame_at t f buffer) = timed t (frame_input f)
heard_of (lone_tick_at t) = timed t lone_tick

-- "the reply buffer", where one is lent, is of at least 72 bytes.
abbrev pub BufferFits : Call → Type 0
BufferFits (frame_at t f buffer) = 72 ≤ length buffer
BufferFits (lone_tick_at t) = Unit {0}

-- The call made: the tick that the driver hands in is the time modulo 65,536.
abbrev pub make_call : Fixed → State → Contents → Call → FrameResult CallError Contents Result
make_call x st c (frame_at t f buffer) = frame_call x buffer (tick_at t) st c f
make_call x st c (lone_tick_at t) = tick_call (tick_at t) st c

-- The description has no error with the memory that is there.
abbrev pub MemoryFits : Fixed → Contents → Type 0
MemoryFits x c = description_check x.alias x.spaces (length x.flash) (length c.memory) ≡ Ok tt

-- What is asked of a list of calls: the description has no error with flash and memory, each frame has a buffer of at
-- least 72 bytes, and the rest is what the order statement asks of any calls.
abbrev pub OrderlyCalls : Fixed → State → Contents → List Call → Type 0
OrderlyCalls x st c ks = Orderly heard_of BufferFits (MemoryFits x) x.alias st c ks

-- The order statement of these calls.
abbrev pub NodeOrder : Fixed → Type 0
NodeOrder x = OrderStatement heard_of BufferFits (MemoryFits x) (handler x) x.alias (make_call x)

-- A call with all that is lent for it but the reception state.
pub record OwnCall : Type 0 where
  pub fixed : Fixed
  pub contents : Contents
  pub call : Call

-- The call made: "each with the state that the one before left", and with nothing else of what it left.
abbrev pub make_own : State → Contents → OwnCall → FrameResult CallError Contents Result
make_own st left k = make_call k.fixed st k.contents k.call

-- Of every list of these calls without an error of the caller, whatever the description and the buffers: the wrapping
-- age is the true age. And of every list of calls that each bring a description, flash, memory, registers and buffer
-- of their own, any of them with an error of the caller: eight places are free once frames stop being accepted.
pub record NodeAging (x : Fixed) : Type 0 where
  pub ages : TrueAges heard_of (make_call x)
  pub eight-free : EightFree (λ (k : OwnCall). heard_of k.call) make_own

-- Of every list of these calls without an error of the caller, whatever the description and the buffers, and of any
-- number of tools: a tool that is not refused with 0x2020 is answered by its book. "One rejection for one broken
-- datagram" is what the book says.
abbrev pub NodeSource : Fixed → Type 0
NodeSource x = OneSource heard_of (handler x) x.alias (make_call x)

-- What is shown of every list of these calls, by a board's description and flash.
pub record NodeTheorems (x : Fixed) : Type 0 where
  pub order : NodeOrder x
  pub aging : NodeAging x
  pub source : NodeSource x
