-- Laws of a line answered.
-- Assumes nothing.
use Rattle.call_error.specs.CallErrors.{OrError}
use Prim.Native.Nat.{ℕ, ◌+◌, ◌≤◌, ◌<◌, min}
use mathlib.Core.Path.{◌≡◌, refl, sym}
use mathlib.Core.List.{List}
use native.Mathlib.Omega.{arith}
use native.Mathlib.Nat.{add-zero}
use lib.ListN.{length, take, replicate}
use borrow.Author.Tests.{le-leb, lt-leb}
use Rattle.std.specs.Prelude.{Some, None}
use Rattle.buffer.proofs.Laws.{put_nil}
use Rattle.can_frame.specs.declared.Frame.{Frame}
use Rattle.can_frame.specs.Frame.{can_frame, source_of}
use Rattle.rx_place_spec.specs.State.{State}
use Rattle.rx_spec.specs.Order.{FrameResult}
use Rattle.rx_place_spec.specs.PlaceBytes.{state_in}
use Rattle.call_error.specs.declared.CallError.{CallError}
use Rattle.reply_answer.specs.Answers.{Result}
use Rattle.exec_spec.specs.Handling.{Fixed, Contents}
use Rattle.node_spec.specs.FrameCall.{frame_call, Answers, Keeps}
use Rattle.node_spec.specs.declared.FrameAnswer.{FrameAnswer}
use Rattle.node_send.specs.Sending.{sent_for, Made}
use Rattle.gridconnect_print.specs.Line.{unknown_text, Printed}
use Rattle.gridconnect_parse.specs.Parsing.{Parsed}
use Rattle.gridconnect_frames.specs.Printing.{frames_from, frames_text, when_room}
use Rattle.gridconnect_session_spec.specs.Turn.{session_tick, turn, answer_line, answer_with_room, Prints}
use Rattle.gridconnect_session_spec.proofs.FullLaws.{sent-full, printed-fits, frames-printed}

-- no room: nothing is answered
pub line-none : (x : Fixed) (st : State) (c : Contents) (p : Parsed) (at : ℕ) (out : List ℕ) → length out < at + 290 → Prints (answer_with_room x st c p at out) at out at out c st
line-none x st c p at out h =
    rw (lt-leb (at + 290) (length out) h) (record { end = sym (add-zero at); few = omega arith; out = sym (put_nil at out); contents = refl; state = refl })

module _ (x : Fixed) (st : State) (c : Contents) (at : ℕ) (out : List ℕ) (room : at + 290 ≤ length out) where
  pub line-unknown : {r : ℕ} {after : List ℕ} → Printed at unknown_text out r after → Prints (answer_with_room x st c None at out) at out r after c st
  unfolding answer_line
  line-unknown q =
      let m = printed-fits at unknown_text out (omega arith) q in
      rw (le-leb (at + 290) (length out) room) (record { end = m.0; few = let i = m.0 in omega arith; out = m.1; contents = refl; state = refl })

  module _ (f : Frame) {payload : List ℕ} (e : payload ≡ take f.len f.bytes) where
    abbrev call : FrameResult CallError Contents Result
    call = frame_call x (replicate 72 0) session_tick st c (can_frame f.header payload)

    abbrev sent : List Frame
    sent = sent_for x.alias (source_of f.header) call.answer

    line-is : turn (frames_text sent) call.state call.world ≡ answer_line x st c (Some f)
    unfolding answer_line
    line-is = rw e

    pub line-handled : {answer : OrError FrameAnswer} {reply places places' pool before made : List ℕ} {left : Contents} {count r : ℕ} {after : List ℕ}
        → Answers call answer (replicate 72 0) reply left
        → Keeps call places places' pool
        → Made sent count before made
        → Printed at (when_room at out (frames_text (frames_from made 0 (min count 10)))) out r after
        → Prints (answer_with_room x st c (Some f) at out) at out r after left (state_in places' pool)
    line-handled {answer} {reply} {places} {places'} {pool} {before} a k m q =
        let full = sent-full x.alias (source_of f.header) call.answer in
        let n = frames-printed sent before at out room m.few full m.bytes m.count q in
        rw (le-leb (at + 290) (length out) room, ← line-is) (record { end = n.0; few = n.2; out = n.1; contents = a.contents; state = rw (k.places, k.pool) refl })
