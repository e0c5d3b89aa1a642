-- A line answered. Document 01, "The demonstration board": "It prints .. per frame the transport reply, then the reply
-- datagram's frames"; "Any other line prints `?`."
use Rattle.std.specs.Prelude.{ℕ, ◌+◌, ◌≤◌, ◌≡◌, cond, Some, None, List, [], length, replicate}
use Rattle.buffer.specs.Buffer.{put_at}
use Rattle.can_frame.specs.Frame.{source_of}
use Rattle.rx_place_spec.specs.State.{State}
use Rattle.tx_cut_spec.specs.Cutting.{carried}
use Rattle.exec_spec.specs.Handling.{Fixed, Contents}
use Rattle.node_spec.specs.FrameCall.{frame_call}
use Rattle.node_send.specs.Sending.{sent_for}
use Rattle.gridconnect_print.specs.Line.{unknown_text}
use Rattle.gridconnect_parse.specs.Parsing.{Parsed}
use Rattle.gridconnect_frames.specs.Room.{has_room}
use Rattle.gridconnect_frames.specs.Printing.{frames_text}

-- The text that is printed, and what is left of the reception state, of memory and of the registers.
pub record Turn : Type 0 where
  pub text : List ℕ
  pub state : State
  pub contents : Contents

abbrev pub turn : List ℕ → State → Contents → Turn
turn text st c = record { text = text; state = st; contents = c }

-- C-14 of document 02: "The demonstration program gives every frame tick 0."
abbrev pub session_tick : ℕ
session_tick = 0

-- A line that was read: its frame is handled, with a reply buffer of 72 bytes, and the frames that the board sends are
-- printed, each as a line; "Any other line prints `?`."
unfoldable pub answer_line : Fixed → State → Contents → Parsed → Turn
answer_line x st c None = turn unknown_text st c
answer_line x st c (Some frame) =
    let r = frame_call x (replicate 72 0) session_tick st c (carried frame) in
    turn (frames_text (sent_for x.alias (source_of frame.header) r.answer)) r.state r.world

-- The same where a buffer has room from an index on for the longest answer; where it has none, the line is not
-- answered.
abbrev pub answer_with_room : Fixed → State → Contents → Parsed → ℕ → List ℕ → Turn
answer_with_room x st c p at buffer = cond (has_room at (length buffer)) (answer_line x st c p) (turn [] st c)

-- The text of t, at most 290 bytes, stands in a buffer from an index on, which was `before`; r is the index past it,
-- and c' and st' are what is left.
pub record Prints (t : Turn) (at : ℕ) (before : List ℕ) (r : ℕ) (after : List ℕ) (c' : Contents) (st' : State) : Type 0 where
  pub end : r ≡ at + length t.text
  pub few : r ≤ at + 290
  pub out : after ≡ put_at at t.text before
  pub contents : c' ≡ t.contents
  pub state : st' ≡ t.state
