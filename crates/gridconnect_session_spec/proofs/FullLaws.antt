-- Every frame that the board sends has its eight bytes, and so is read from lent bytes as it was put there; what the board sends, printed.
-- Assumes nothing.
use Prim.Native.Nat.{ℕ, ◌+◌, ◌≤◌, min}
use mathlib.Core.Path.{◌≡◌, ◌∙◌}
use mathlib.Core.Bool.{◌&&◌}
use mathlib.Core.List.{List, [], ◌∷◌, ◌++◌}
use native.Mathlib.Omega.{arith}
use lib.Dec.{leb}
use lib.ListN.{length, take, drop, length-append, length-replicate}
use lib.Seq.{length-take-le}
use borrow.Author.Tests.{le-leb, leb-true, leb-false}
use native.Mathlib.Nat.{le_of_eq}
use Rattle.buffer.specs.BigEndian.{two_bytes}
use Rattle.buffer.specs.Buffer.{over, put_at}
use Rattle.buffer.proofs.Choice.{cond-elim}
use Rattle.buffer.proofs.Laws.{placed-fits}
use Rattle.call_error.specs.declared.CallError.{CallError}
use Rattle.can_frame.specs.Refusal.{refusal_code}
use Rattle.can_frame.specs.declared.Frame.{Frame}
use Rattle.can_frame.specs.Frame.{header_of, frame_of}
use Rattle.can_frame_bytes.specs.Layout.{frames_bytes}
use Rattle.rx_spec.specs.Order as order
use Rattle.rx_spec.specs.Order.{caller_error, ignored_frame, nothing, transport_refusal, handled}
use Rattle.tx_cut_spec.specs.Cutting.{aliases, first, single, rest_frames, frames_of, cut_frames}
use Rattle.tx_transport.specs.Transport.{transport_reply, received_ok, rejected_with}
use Rattle.tx_cut_spec.proofs.CutLaws.{by-eights, rest-last, rest_more}
use Rattle.reply_answer.specs.Answers.{Result, datagram_rejected, written, update_completed, received_ok_reply}
use Rattle.node_send.specs.Sending.{frames_to_send, sent_for}
use Rattle.gridconnect_print.specs.Line.{end_of, Printed}
use Rattle.gridconnect_frames.specs.Printing.{frames_from, frames_text, when_room}
use Rattle.gridconnect_frames.proofs.PrintingLaws.{Full, frames-back, texts_short}

-- ---- eight bytes

frame-full : (h : ℕ) (xs : List ℕ) → length xs ≤ 8 → length (frame_of h xs).bytes ≡ 8
unfolding frame_of
frame-full h xs few = rw (length-append, length-replicate) (omega arith)

append_full : (fs gs : List Frame) → Full fs → Full gs → Full (fs ++ gs)
append_full [] gs p q = q
append_full (f ∷ fs) gs p q = (p.0, append_full fs gs p.1 q)

reply-full : (board tool h : ℕ) (xs : List ℕ) → length xs ≤ 8 → Full (transport_reply board tool (frame_of h xs))
reply-full board tool h xs few = cond-elim Full (aliases board tool) (λ _. (frame-full h xs few, tt)) (λ _. tt)

ok_full : (board tool flags : ℕ) → Full (received_ok board tool flags)
unfolding received_ok
ok_full board tool flags = reply-full board tool (0x19A28000 + board) (two_bytes tool ++ flags ∷ []) (omega arith)

rejected-full : (board tool code : ℕ) → Full (rejected_with board tool code)
unfolding rejected_with
rejected-full board tool code = reply-full board tool (0x19A48000 + board) (two_bytes tool ++ two_bytes code) (omega arith)

rest-full : (d s : ℕ) (xs : List ℕ) → Full (rest_frames d s xs)
rest-full d s =
    by-eights (λ (xs : List ℕ). Full (rest_frames d s xs))
    (λ xs h. rw (rest-last d s xs h) (frame-full (header_of 0x1D d s) xs h, tt))
    (λ xs h ih. rw (rest_more d s xs h) (frame-full (header_of 0x1C d s) (take 8 xs) (le_of_eq (length-take-le 8 xs (omega arith))), ih))

frames-full : (d s : ℕ) (xs : List ℕ) → Full (frames_of d s xs)
unfolding frames_of
frames-full d s xs =
    cond-elim Full (leb (length xs) 8) {a = single d s xs ∷ []} {b = first d s (take 8 xs) ∷ rest_frames d s (drop 8 xs)}
    (λ e. (frame-full (header_of 0x1A d s) xs (leb-true (length xs) 8 e), tt))
    (λ e. let h = leb-false (length xs) 8 e in (frame-full (header_of 0x1B d s) (take 8 xs) (le_of_eq (length-take-le 8 xs (omega arith))), rest-full d s (drop 8 xs)))

cut_full : (xs : List ℕ) (d s : ℕ) → Full (cut_frames xs d s)
unfolding cut_frames
cut_full xs d s = cond-elim Full (leb (length xs) 72 && aliases d s) {a = frames_of d s xs} {b = []} (λ _. frames-full d s xs) (λ _. tt)

pub sent-full : (board tool : ℕ) (a : order.CallAnswer CallError Result) → Full (sent_for board tool a)
unfolding frames_to_send
sent-full board tool (caller_error error) = tt
sent-full board tool ignored_frame = tt
sent-full board tool nothing = tt
sent-full board tool (transport_refusal refusal) = rejected-full board tool (refusal_code refusal)
sent-full board tool (handled (datagram_rejected code)) = append_full (rejected_with board tool code) [] (rejected-full board tool code) tt
sent-full board tool (handled (written index n)) = append_full (received_ok board tool 0x00) [] (ok_full board tool 0x00) tt
sent-full board tool (handled update_completed) = append_full (received_ok board tool 0x00) [] (ok_full board tool 0x00) tt
sent-full board tool (handled (received_ok_reply reply)) =
    append_full (received_ok board tool 0x80) (cut_frames (take (length reply) reply) tool board) (ok_full board tool 0x80) (cut_full (take (length reply) reply) tool board)

-- ---- printed

-- a text that has room
pub printed-fits : (at : ℕ) (text out : List ℕ) → at + length text ≤ length out → {r : ℕ} {after : List ℕ} → Printed at text out r after
    → (r ≡ at + length text) × (after ≡ put_at at text out)
unfolding end_of
printed-fits at text out h p =
    (p.end ∙ rw (le-leb (at + length text) (length out) h), p.out ∙ placed-fits at text out h)

-- frames that were made in lent bytes, printed where there is room for ten
module _ (fs : List Frame) (before : List ℕ) (at : ℕ) (out : List ℕ) (room : at + 290 ≤ length out) (few : length fs ≤ 10) (full : Full fs) where
  pub frames-printed : {made : List ℕ} {count r : ℕ} {after : List ℕ} → made ≡ over (frames_bytes fs) before → count ≡ length fs
      → Printed at (when_room at out (frames_text (frames_from made 0 (min count 10)))) out r after
      → (r ≡ at + length (frames_text fs)) × (after ≡ put_at at (frames_text fs) out) × (r ≤ at + 290)
  frames-printed {made} {count} {r} {after} e n p =
      let m : min count 10 ≡ length fs = omega arith in
      let b : frames_from made 0 (min count 10) ≡ fs = rw (m, e) (frames-back fs before full) in
      let s = texts_short fs in
      let q : Printed at (frames_text fs) out r after = rw (b, le-leb (at + 290) (length out) room) at p in
      let d = printed-fits at (frames_text fs) out (omega arith) q in
      (d.0, d.1, let i = d.0 in omega arith)
