-- Laws of the frames to send: how many there are, a reply in front of its buffer, and demand 3 of frames in and frames out.
-- Assumes nothing.
use Rattle.call_error.specs.CallErrors.{OrError}
use Prim.Native.Nat.{ℕ, ◌≤◌}
use mathlib.Core.Path.{◌≡◌, refl, ap, ◌∙◌}
use mathlib.Core.List.{List, [], ◌∷◌, ◌++◌, map, append-nil}
use native.Mathlib.Omega.{arith}
use lib.Dec.{leb}
use lib.ListN.{length, take, drop, length-append}
use lib.Seq.{take-append_seam, take-length}
use borrow.Author.Tests.{leb-true}
use Rattle.buffer.specs.Buffer.{over}
use Rattle.buffer.proofs.Choice.{cond-elim, and_left}
use Rattle.call_error.specs.declared.CallError.{CallError}
use Rattle.can_frame.specs.declared.Frame.{Frame}
use Rattle.can_frame_bytes.specs.Layout.{frames_bytes}
use Rattle.rx_place_spec.specs.State.{State}
use Rattle.rx_spec.specs.Order as order
use Rattle.rx_spec.specs.Order.{caller_error, ignored_frame, nothing, transport_refusal, handled, run_calls}
use Rattle.tx_cut_spec.specs.Cutting.{aliases, cut_frames}
use Rattle.tx_transport.specs.Transport.{received_ok, rejected_with, transport_reply}
use Rattle.tx_cut_spec.proofs.CutLaws.{frames-few}
use Rattle.reply_answer.specs.Answers.{Result, datagram_rejected, written, update_completed, received_ok_reply}
use Rattle.reply_answer.specs.declared.Answer.{Answer}
use Rattle.reply_answer.specs.declared.Answer.TheVariants.{Rejected, Written, UpdateComplete, Replied}
use Rattle.exec_spec.specs.Handling.{Fixed, Contents}
use Rattle.node_spec.specs.FrameCall.{frame_answer_of, frame_buffer_of}
use Rattle.node_spec.specs.NodeOrder.{Call, heard_of, make_call}
use Rattle.node_spec.specs.declared.FrameAnswer.{FrameAnswer}
use Rattle.node_spec.proofs.CallLaws.{node_theorems}
use Rattle.node_send.specs.Sending.{answer_frames, frames_to_send, sent_for, sent_of, sent_in_calls, sent_to, Made, BusOrder}

-- ---- how many

reply-few : (board tool : ℕ) (f : Frame) → length (transport_reply board tool f) ≤ 1
reply-few board tool f = cond-elim (λ (fs : List Frame). length fs ≤ 1) (aliases board tool) (λ _. omega arith) (λ _. omega arith)

ok_few : (board tool flags : ℕ) → length (received_ok board tool flags) ≤ 1
unfolding received_ok
ok_few board tool flags = reply-few board tool _

rejected-few : (board tool code : ℕ) → length (rejected_with board tool code) ≤ 1
unfolding rejected_with
rejected-few board tool code = reply-few board tool _

cut_few : (xs : List ℕ) (d s : ℕ) → length (cut_frames xs d s) ≤ 9
unfolding cut_frames
cut_few xs d s =
    cond-elim (λ (fs : List Frame). length fs ≤ 9) _
    (λ e. frames-few d s xs (leb-true (length xs) 72 (and_left (leb (length xs) 72) (aliases d s) e)))
    (λ _. omega arith)

-- ---- frames made

pub made_none : (before : List ℕ) → Made [] 0 before before
made_none before = record { count = refl; bytes = refl; few = omega arith }

module _ {before after : List ℕ} {r : ℕ} where
  pub made_rejected : (board tool code : ℕ)
      → (r ≡ length (rejected_with board tool code)) × (after ≡ over (frames_bytes (rejected_with board tool code)) before)
      → Made (rejected_with board tool code) r before after
  made_rejected board tool code m = let l = rejected-few board tool code in record { count = m.0; bytes = m.1; few = omega arith }

  made_done : (board tool : ℕ) → (r ≡ length (received_ok board tool 0x00)) × (after ≡ over (frames_bytes (received_ok board tool 0x00)) before)
      → Made (received_ok board tool 0x00 ++ []) r before after
  made_done board tool m =
      let l = ok_few board tool 0x00 in
      rw (append-nil (received_ok board tool 0x00)) (record { count = m.0; bytes = m.1; few = omega arith })

  module _ (board tool : ℕ) (buffer : List ℕ) {answer : Answer} where
    pub answer-rejected : {code : ℕ} → answer ≡ Rejected code
        → (r ≡ length (rejected_with board tool code)) × (after ≡ over (frames_bytes (rejected_with board tool code)) before)
        → Made (answer_frames board tool answer buffer) r before after
    answer-rejected {code} e m = rw (e, append-nil (rejected_with board tool code)) (made_rejected board tool code m)

    pub answer-written : {index n : ℕ} → answer ≡ Written index n
        → (r ≡ length (received_ok board tool 0x00)) × (after ≡ over (frames_bytes (received_ok board tool 0x00)) before)
        → Made (answer_frames board tool answer buffer) r before after
    answer-written e m = rw e (made_done board tool m)

    pub answer-complete : answer ≡ UpdateComplete
        → (r ≡ length (received_ok board tool 0x00)) × (after ≡ over (frames_bytes (received_ok board tool 0x00)) before)
        → Made (answer_frames board tool answer buffer) r before after
    answer-complete e m = rw e (made_done board tool m)

    pub answer-replied : {n : ℕ} → answer ≡ Replied n → {reply : List ℕ} → reply ≡ take n buffer
        → (r ≡ length (received_ok board tool 0x80 ++ cut_frames reply tool board))
        × (after ≡ over (frames_bytes (received_ok board tool 0x80 ++ cut_frames reply tool board)) before)
        → Made (answer_frames board tool answer buffer) r before after
    answer-replied {n} e {reply} p m =
        let l = ok_few board tool 0x80 in
        let k = cut_few reply tool board in
        let few : length (received_ok board tool 0x80 ++ cut_frames reply tool board) ≤ 10 = rw length-append (omega arith) in
        rw (e, ← p) (record { count = m.0; bytes = m.1; few = few })

-- ---- a reply in front of its buffer

module _ (board tool : ℕ) (buffer : List ℕ) where
  sent-from : (a : order.CallAnswer CallError Result) → frames_to_send board tool (frame_answer_of a) (frame_buffer_of a buffer) ≡ sent_for board tool a
  unfolding frames_to_send
  sent-from (caller_error error) = refl
  sent-from ignored_frame = refl
  sent-from nothing = refl
  sent-from (transport_refusal refusal) = refl
  sent-from (handled (datagram_rejected code)) = refl
  sent-from (handled (written index n)) = refl
  sent-from (handled update_completed) = refl
  sent-from (handled (received_ok_reply reply)) =
      rw (take-append_seam reply (drop (length reply) buffer), take-length reply)

  -- the frames of what the frame call gave back
  pub sent_is : (a : order.CallAnswer CallError Result) {answer : OrError FrameAnswer} {out : List ℕ} {source : ℕ} → answer ≡ frame_answer_of a → out ≡ frame_buffer_of a buffer
      → source ≡ tool
      → {r : ℕ} {before after : List ℕ} → Made (frames_to_send board source answer out) r before after → Made (sent_for board tool a) r before after
  sent_is a e p q m = rw (← sent-from a, ← e, ← p, ← q) m

-- ---- demand 3

module _ (x : Fixed) where
  sent-calls : (st : State) (c : Contents) (ks : List Call) → sent_in_calls x st c ks ≡ sent_to x.alias (map heard_of ks) (run_calls (make_call x) st c ks).answers
  sent-calls st c [] = refl
  sent-calls st c (k ∷ ks) = let r = make_call x st c k in
      ap (λ (rest : List (List Frame)). sent_of x.alias (heard_of k).input r.answer ∷ rest) (sent-calls r.state r.world ks)

  pub bus_order : BusOrder x
  bus_order st c ks asked = sent-calls st c ks ∙ ap (sent_to x.alias (map heard_of ks)) ((node_theorems x).order st c ks asked).answers
