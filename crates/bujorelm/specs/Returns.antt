-- What a caller in C finds after a call: the numbers, and what it lent.
use Rattle.std.specs.Prelude.{ℕ, List, ◌≡◌, length}
use Rattle.buffer.specs.Buffer.{over}
use Rattle.buffer.specs.Lent.{LentBytes, GivenBytes, before, after, given}
use Rattle.call_error.specs.declared.CallError.{CallError}
use Rattle.can_frame.specs.declared.Frame.{Frame}
use Rattle.can_frame_bytes.specs.Layout.{frames_bytes}
use Rattle.rx_spec.specs.Order.{FrameResult}
use Rattle.rx_place_spec.specs.PlaceBytes.{state_in}
use Rattle.space_table.specs.Table.{spaces_in}
use Rattle.reply_answer.specs.Answers.{Result}
use Rattle.exec_store.specs.Storing.{OnlyWithin}
use Rattle.exec_spec.specs.Handling.{Fixed, fixed, Contents}
use Rattle.exec_spec.specs.LentBoard.{contents_after}
use Rattle.node_spec.specs.DatagramCall.{Final, lent_datagram_call}
use Rattle.node_spec.specs.FrameCall.{frame_answer_of, frame_buffer_of, Keeps, lent_frame_call}
use Rattle.node_spec.specs.TickCall.{tick_call}
use Rattle.node_send.specs.Sending.{lent_frames_sent}
use Rattle.capi_result.specs.Result.{handled_numbers, frame_numbers}
use Rattle.capi_numbers.specs.Numbers.{result_bytes}
use Rattle.capi_numbers.specs.declared.CallResult.{CallResult}

-- The board, of which a caller in C lends each part by itself.
abbrev lent_board : ℕ → ℕ → GivenBytes → GivenBytes → Fixed
lent_board alias lengths spaces flash = fixed alias lengths (spaces_in (given spaces)) (given flash)

-- After the call for a whole datagram: the numbers in the result, the reply buffer, and memory with the registers are
-- what the definition of the call says. Memory has changed nowhere but in the range that the numbers name, which is
-- empty for every kind but a write.
module _ (alias lengths : ℕ) (spaces flash : GivenBytes) (memory registers : LentBytes) (datagram : GivenBytes)
    (reply result : LentBytes) where
  abbrev datagram_leaves : Final
  datagram_leaves = lent_datagram_call (lent_board alias lengths spaces flash) memory registers datagram reply

  abbrev datagram_numbers : CallResult
  datagram_numbers = handled_numbers datagram_leaves.handled

  pub record DatagramReturns : Type 0 where
    pub numbers : after result ≡ result_bytes datagram_numbers
    pub replied : after reply ≡ datagram_leaves.reply
    pub left : contents_after memory registers ≡ datagram_leaves.contents
    pub changed :
        OnlyWithin datagram_numbers.changed_at datagram_numbers.changed_len (before memory) (after memory)

-- After the frame call: the same, the reception state with its bytes, and the frames to send in front of their buffer.
module _ (alias lengths : ℕ) (spaces flash : GivenBytes) (memory registers pool places : LentBytes)
    (tick header : ℕ) (payload : GivenBytes) (reply frames result : LentBytes) where
  abbrev frame_leaves : FrameResult CallError Contents Result
  frame_leaves = lent_frame_call (lent_board alias lengths spaces flash) memory registers pool places tick header payload reply

  abbrev frames_sent : List Frame
  frames_sent = lent_frames_sent (lent_board alias lengths spaces flash) memory registers pool places tick header payload reply frames

  abbrev frame_call_numbers : CallResult
  frame_call_numbers = frame_numbers (frame_answer_of frame_leaves.answer) (length frames_sent)

  pub record FrameReturns : Type 0 where
    pub numbers : after result ≡ result_bytes frame_call_numbers
    pub replied : after reply ≡ frame_buffer_of frame_leaves.answer (before reply)
    pub left : contents_after memory registers ≡ frame_leaves.world
    pub changed :
        OnlyWithin frame_call_numbers.changed_at frame_call_numbers.changed_len (before memory) (after memory)
    pub keeps : Keeps frame_leaves (before places) (after places) (after pool)
    pub sent : after frames ≡ over (frames_bytes frames_sent) (before frames)

-- After the tick call: the numbers, and the bytes of the places. The pool, memory and the registers are not lent, and
-- stay as they are.
pub record TickReturns (places : LentBytes) (tick : ℕ) (result : LentBytes)
    (pool : List ℕ) (c : Contents) : Type 0 where
  pub numbers :
      after result
      ≡ result_bytes (frame_numbers (frame_answer_of (tick_call tick (state_in (before places) pool) c).answer) 0)
  pub keeps : Keeps (tick_call tick (state_in (before places) pool) c) (before places) (after places) pool
  pub contents : c ≡ (tick_call tick (state_in (before places) pool) c).world

-- Frames made in a lent buffer: r is their number, and the bytes behind them stay as they were.
pub record FramesMade (fs : List Frame) (frames : LentBytes) (r : ℕ) : Type 0 where
  pub count : r ≡ length fs
  pub bytes : after frames ≡ over (frames_bytes fs) (before frames)
