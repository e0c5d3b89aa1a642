-- Where the two halves meet: whatever the board answers, the tool's readers accept, and give the fields that the board
-- put in.
use Rattle.std.specs.Prelude.{ℕ, ◌≡◌, true, false, List, length, take, drop, Ok, Some}
use Rattle.buffer.specs.Buffer.{Each}
use Rattle.can_frame.specs.declared.Frame.{Frame}
use Rattle.cmd_fields.specs.Commands.{Request}
use Rattle.cmd_fields.specs.declared.Form.{Form}
use Rattle.cmd_decode.specs.Decoding.{request, decode}
use Rattle.call_error.specs.CallErrors.{description_check}
use Rattle.reply_answer.specs.Answers.{Answered, datagram_rejected, written, update_completed, received_ok_reply, rejected_code, transport_of}
use Rattle.reply_answer.specs.declared.Answer.{Answer}
use Rattle.reply_answer.specs.declared.Answer.TheVariants as answered
use Rattle.exec_spec.specs.Performing.{Fixed, Contents, perform}
use Rattle.node_send.specs.Sending.{transport_frames}
use Rattle.reply_spec.specs.ReplyForms.{Reply, reply_bytes}
use Rattle.tool_read_spec.specs.Finding.{span, find_reply, reply_found}
use Rattle.tool_read_ack.specs.Receipt.{received, rejection, read_received, read_rejection}

-- ---- reply datagrams

-- Where an answer has a reply, the reader finds in its bytes the very fields that it is given by. The other answers
-- have none to read.
abbrev pub ReadBack : Answered Reply → Type 0
ReadBack (datagram_rejected code) = Unit {0}
ReadBack (written index n) = Unit {0}
ReadBack update_completed = Unit {0}
ReadBack (received_ok_reply reply) = reply_found (find_reply (reply_bytes reply)) (reply_bytes reply) ≡ Some reply

-- For every request that the board reads in a datagram, every description without an error, with flash,
-- memory and a lock of six bytes.
abbrev pub RepliesRead : Type 0
RepliesRead =
    (x : Fixed) (c : Contents) (d : List ℕ) (form : Form) (q : Request) →
    description_check x.alias x.spaces (length x.flash) (length c.memory) ≡ Ok tt
    → length c.registers.lock ≡ 6 →
    decode d ≡ request form q → ReadBack (perform x c form q).result

-- ---- transport replies

-- What stands behind the aliases in the frame of a transport reply.
abbrev pub content_of : Frame → List ℕ
content_of f = drop 2 (take f.len f.bytes)

-- A reply is pending if there is one, no timeout is given, and no byte stands behind a code.
abbrev pub Acknowledges : Answer → Frame → Type 0
Acknowledges (answered.Rejected code) f = read_rejection (content_of f) ≡ Some (rejection code (span 2 0))
Acknowledges (answered.Written index n) f = read_received (content_of f) ≡ Some (received false 0)
Acknowledges answered.UpdateComplete f = read_received (content_of f) ≡ Some (received false 0)
Acknowledges (answered.Replied n) f = read_received (content_of f) ≡ Some (received true 0)

-- The transport reply to every answer, and to every frame that the transport refuses. There is no frame where an alias
-- is over 4,095.
pub record TransportRead : Type 0 where
  pub to_answer : (board tool : ℕ) (a : Answer) → Each (Acknowledges a) (transport_frames board tool (transport_of a))
  pub to_refusal : (board tool code : ℕ) → Each (λ (f : Frame). read_rejection (content_of f) ≡ Some (rejection code (span 2 0))) (transport_frames board tool (rejected_code code))

-- both
pub record HalvesMeet : Type 0 where
  pub replies : RepliesRead
  pub transport : TransportRead
