-- What comes of a call as numbers, for a caller in C.
use Rattle.std.specs.Prelude.{ℕ, Option, Some, None, Ok, Err}
use Rattle.call_error.specs.CallErrors.{refusal_of, OrError}
use Rattle.call_error.specs.declared.CallError.{CallError}
use Rattle.reply_answer.specs.declared.Answer.{Answer}
use Rattle.reply_answer.specs.declared.Answer.TheVariants as answer
use Rattle.node_spec.specs.declared.FrameAnswer.{FrameAnswer}
use Rattle.node_spec.specs.declared.FrameAnswer.TheVariants as frame
use Rattle.capi_numbers.specs.Numbers.{kind_ignored, kind_joined, kind_transport_refusal, kind_rejected, kind_written, kind_replied, kind_update_complete, no_position, refusal_numbers, numbers}
use Rattle.capi_numbers.specs.declared.CallResult.{CallResult}

-- The number that stands for a position.
abbrev pub position_number : Option ℕ → ℕ
position_number None = no_position
position_number (Some index) = index

-- An error of the caller, with the position of the refused space.
abbrev pub error_numbers : CallError → ℕ → CallResult
error_numbers error frames = refusal_numbers (refusal_of error).number (position_number (refusal_of error).position) frames

-- Rejected with its code; Received OK 0x00 to a write of n bytes from an index of memory on; Received OK 0x80 and a
-- reply of n bytes; Received OK 0x00 to Update Complete.
abbrev pub answer_numbers : Answer → ℕ → CallResult
answer_numbers (answer.Rejected code) frames = numbers kind_rejected 0 code 0 0 0 frames
answer_numbers (answer.Written index n) frames = numbers kind_written 0x00 0 index n 0 frames
answer_numbers (answer.Replied n) frames = numbers kind_replied 0x80 0 0 0 n frames
answer_numbers answer.UpdateComplete frames = numbers kind_update_complete 0x00 0 0 0 0 frames

-- The call for a whole datagram makes no frames.
abbrev pub handled_numbers : OrError Answer → CallResult
handled_numbers (Err error) = error_numbers error 0
handled_numbers (Ok a) = answer_numbers a 0

abbrev pub frame_numbers : OrError FrameAnswer → ℕ → CallResult
frame_numbers (Err error) frames = error_numbers error frames
frame_numbers (Ok frame.Ignored) frames = numbers kind_ignored 0 0 0 0 0 frames
frame_numbers (Ok frame.Nothing) frames = numbers kind_joined 0 0 0 0 0 frames
frame_numbers (Ok (frame.TransportRefusal code)) frames = numbers kind_transport_refusal 0 code 0 0 0 frames
frame_numbers (Ok (frame.Answered a)) frames = answer_numbers a frames
