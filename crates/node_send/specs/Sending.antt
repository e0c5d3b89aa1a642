-- What the board sends. Document 01, "The demonstration board": "per frame the transport reply, then the reply
-- datagram's frames"; and demand 3 of frames in and frames out.
use Rattle.call_error.specs.CallErrors.{OrError}
use Rattle.std.specs.Prelude.{ℕ, ◌≤◌, ◌≡◌, List, [], ◌∷◌, ◌++◌, map, length, take, Ok, Err}
use Rattle.buffer.specs.Buffer.{over}
use Rattle.buffer.specs.Lent.{LentBytes, GivenBytes, before, after}
use Rattle.call_error.specs.declared.CallError.{CallError}
use Rattle.can_frame.specs.declared.Frame.{Frame}
use Rattle.can_frame.specs.Frame.{source_of}
use Rattle.can_frame_bytes.specs.Layout.{frames_bytes}
use Rattle.rx_place_spec.specs.State.{State}
use Rattle.rx_spec.specs.Times.{Input, frame_input, lone_tick, Timed, events_of}
use Rattle.rx_spec.specs.Order as order
use Rattle.rx_spec.specs.Order.{caller_error, ignored_frame, nothing, transport_refusal, handled, answers_to}
use Rattle.tx_cut_spec.specs.Cutting.{cut_frames}
use Rattle.tx_transport.specs.Transport.{received_ok, rejected_with}
use Rattle.reply_answer.specs.Answers.{Result, datagram_rejected, written, update_completed, received_ok_reply, Transport, ok_flags, rejected_code, transport_of}
use Rattle.reply_answer.specs.declared.Answer.{Answer}
use Rattle.reply_answer.specs.declared.Answer.TheVariants.{Rejected, Written, UpdateComplete, Replied}
use Rattle.exec_spec.specs.Handling.{Fixed, Contents}
use Rattle.node_spec.specs.FrameCall.{handler, frame_answer_of, lent_frame_call, FrameEnds}
use Rattle.node_spec.specs.NodeOrder.{Call, heard_of, make_call, OrderlyCalls}
use Rattle.node_spec.specs.declared.FrameAnswer.{FrameAnswer}
use Rattle.node_spec.specs.declared.FrameAnswer.TheVariants.{Ignored, Nothing, TransportRefusal, Answered}

-- ---- the frames of an answer

-- The transport reply, from the board to a tool: Received OK with its flags, or Rejected with its code.
abbrev pub transport_frames : ℕ → ℕ → Transport → List Frame
transport_frames board tool (ok_flags flags) = received_ok board tool flags
transport_frames board tool (rejected_code code) = rejected_with board tool code

-- "then the reply datagram's frames": of the answer that has a reply, which is in front of the buffer.
abbrev pub reply_frames : ℕ → ℕ → Answer → List ℕ → List Frame
reply_frames board tool (Rejected code) buffer = []
reply_frames board tool (Written index n) buffer = []
reply_frames board tool UpdateComplete buffer = []
reply_frames board tool (Replied n) buffer = cut_frames (take n buffer) tool board

-- "per frame the transport reply, then the reply datagram's frames"
abbrev pub answer_frames : ℕ → ℕ → Answer → List ℕ → List Frame
answer_frames board tool a buffer = transport_frames board tool (transport_of a) ++ reply_frames board tool a buffer

-- The frames to send for the answer to a frame, from the board to the tool that the frame came from. The caller's
-- errors are "never sent", an ignored frame has "no answer", nor has one that is joined or swallowed; a transport
-- refusal is "Sent as Rejected".
unfoldable pub frames_to_send : ℕ → ℕ → OrError FrameAnswer → List ℕ → List Frame
frames_to_send board tool (Err error) buffer = []
frames_to_send board tool (Ok Ignored) buffer = []
frames_to_send board tool (Ok Nothing) buffer = []
frames_to_send board tool (Ok (TransportRefusal code)) buffer = transport_frames board tool (rejected_code code)
frames_to_send board tool (Ok (Answered a)) buffer = answer_frames board tool a buffer

-- Frames made in lent bytes: r is their number, and the bytes behind them stay as they were.
pub record Made (fs : List Frame) (r : ℕ) (before after : List ℕ) : Type 0 where
  pub count : r ≡ length fs
  pub bytes : after ≡ over (frames_bytes fs) before
  -- Nine frames for a datagram, and the transport reply.
  pub few : length fs ≤ 10

-- ---- what the bus sees

-- The bytes of the reply datagram. Whether there is one is said by the answer: where there is none, no frame is made of
-- these.
abbrev pub reply_of : order.CallAnswer CallError Result → List ℕ
reply_of (caller_error error) = []
reply_of ignored_frame = []
reply_of nothing = []
reply_of (transport_refusal refusal) = []
reply_of (handled (datagram_rejected code)) = []
reply_of (handled (written index n)) = []
reply_of (handled update_completed) = []
reply_of (handled (received_ok_reply reply)) = reply

-- The frames to send for an answer of the definitions, with its own reply.
abbrev pub sent_for : ℕ → ℕ → order.CallAnswer CallError Result → List Frame
sent_for board tool a = frames_to_send board tool (frame_answer_of a) (reply_of a)

-- The frames that a call sends, by what it brings and its answer: to the frame's source, and none for a lone tick.
abbrev pub sent_of : ℕ → Input → order.CallAnswer CallError Result → List Frame
sent_of board (frame_input f) a = sent_for board (source_of f.header) a
sent_of board lone_tick a = []

-- For each call the frames that the board sends, each call made on what the call before left.
abbrev pub sent_in_calls : Fixed → State → Contents → List Call → List (List Frame)
sent_in_calls x st c [] = []
sent_in_calls x st c (k ∷ ks) =
    let r = make_call x st c k in sent_of x.alias (heard_of k).input r.answer ∷ sent_in_calls x r.state r.world ks

-- For what each call brings the frames of its answer.
abbrev pub sent_to : ℕ → List Timed → List (order.CallAnswer CallError Result) → List (List Frame)
sent_to board [] answers = []
sent_to board (c ∷ cs) [] = []
sent_to board (c ∷ cs) (a ∷ answers) = sent_of board c.input a ∷ sent_to board cs answers

-- Demand 3 of frames in and frames out: in the cases of the order statement, the calls send, each to its frame's
-- source, the frames of the answers that the books call for with each finished datagram "handled whole".
abbrev pub BusOrder : Fixed → Type 0
BusOrder x =
    (st : State) (c : Contents) (ks : List Call) → OrderlyCalls x st c ks
    → sent_in_calls x st c ks ≡ sent_to x.alias (map heard_of ks)
    (answers_to (handler x) c (events_of x.alias (map heard_of ks)))

-- ---- what the code gives back

-- Everything that the caller finds after a frame is handled and answered, of what it lent and handed in.
module _ (x : Fixed) (memory registers pool places : LentBytes)
    (tick header : ℕ) (payload : GivenBytes) (reply frames : LentBytes) where
  -- The frames to send to the frame's source.
  abbrev pub lent_frames_sent : List Frame
  lent_frames_sent =
      sent_for x.alias (source_of header)
      (lent_frame_call x memory registers pool places tick header payload reply).answer

  pub record BusEnds (answer : OrError FrameAnswer) (count : ℕ) : Type 0 where
    pub ends : FrameEnds x memory registers pool places tick header payload reply answer
    pub sent : Made lent_frames_sent count (before frames) (after frames)
