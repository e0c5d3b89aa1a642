-- The two halves meet.
-- Assumes nothing.
use Prim.Native.Nat.{ℕ, ◌+◌, ◌*◌, ◌/◌, ◌%◌, ◌≤◌}
use mathlib.Core.Path.{◌≡◌, refl, sym}
use mathlib.Core.Bool.{true, false, cond}
use mathlib.Core.List.{List, [], ◌∷◌, ◌++◌}
use native.Mathlib.Omega.{arith}
use lib.Dec.{eqb}
use lib.ListN.{length, length-take, length-drop}
use Rattle.buffer.specs.Buffer.{Each}
use Rattle.buffer.proofs.Choice.{cond-elim, cond_map, by-test}
use Rattle.buffer.specs.BigEndian.{two_bytes}
use Rattle.can_frame.specs.declared.Frame.{Frame}
use Rattle.can_frame.specs.Frame.{frame_of}
use Rattle.tx_cut_spec.specs.Cutting.{aliases}
use Rattle.tx_transport.specs.Transport.{received_ok, rejected_with}
use Rattle.node_send.specs.Sending.{transport_frames}
use Rattle.std.proofs.Common.{Some}
use Rattle.tool_read_spec.specs.Finding.{span}
use Rattle.tool_read_ack.specs.Receipt.{received, rejection, read_received, read_rejection}
use Rattle.cmd_fields.specs.Commands as asked
use Rattle.cmd_fields.specs.Commands.{Request, Names}
use Rattle.cmd_fields.specs.declared.Form.{Form}
use Rattle.cmd_decode.proofs.Laws.{Allowed, allowed}
use Rattle.space_table.specs.declared.Space.{Space}
use Rattle.space_lookup.specs.Description.{size_of, store_of}
use Rattle.space_lookup.specs.declared.Found.{Found}
use Rattle.space_lookup.specs.declared.Found.TheVariants.{Described, Empty, Unknown}
use Rattle.call_error.specs.CallErrors.{description_check}
use Rattle.call_error.proofs.Laws.{Fine, good-find}
use Rattle.exec_lock.specs.Lock.{test_and_set, lock_after, all_zero}
use Rattle.reply_spec.specs.ReplyForms.{no_text, no_address, lowest_address, Reply, information, reply_bytes, bit1, WellFormed}
use Rattle.reply_datagram.specs.Replies.{read_reply, failed_read, failed_write, lock_reply, in_bytes}
use Rattle.reply_datagram.specs.Inquiry.{options_reply, access_flag, absent_reply, information_reply}
use Rattle.space_reach.specs.Reach.{ReachResult, access}
use Rattle.space_reach.proofs.Laws.{reached}
use Rattle.reply_answer.specs.Answers.{received_ok_reply, transport_of}
use Rattle.reply_answer.specs.declared.Answer.{Answer}
use Rattle.reply_answer.specs.declared.Answer.TheVariants as answered
use Rattle.exec_spec.specs.Access.{bytes_read, read_result, write_result}
use Rattle.exec_spec.specs.Handling.{Short}
use Rattle.exec_spec.specs.Performing.{Fixed, Contents, found_in, perform}
use Rattle.exec_spec.proofs.HandlingLaws.{perform-short}
use Rattle.tool_read_spec.proofs.CompleteLaws.{complete}
use Rattle.tool_meets_board_spec.specs.Meeting.{ReadBack, RepliesRead, content_of, Acknowledges, HalvesMeet}
use Rattle.tool_meets_board_spec.proofs.NamingLaws.{Named, named}
use Rattle.std.specs.Prelude.{Ok, Err}

-- a reply of the language is read as it is
is_read : (y : Reply) → WellFormed y → length (reply_bytes y) ≤ 72 → ReadBack (received_ok_reply y)
is_read y w short = complete (reply_bytes y) y (refl, w, short)

-- ---- reads

-- a read that reaches a space of a good description reads at least one byte
some_bytes : (flash memory : List ℕ) (s : Space) (address count : ℕ) → Fine (length flash) (length memory) s → s.lowest ≤ address → address + 1 ≤ s.highest + 1 → 1 ≤ count →
    1 ≤ length (bytes_read flash memory s address count)
some_bytes flash memory s address count f l h n =
    let store = length (store_of s flash memory) in
    let size : store_of s (length flash) (length memory) ≡ store = sym (cond_map (λ (b : List ℕ). length b) s.in_flash flash memory) in
    let room : s.offset + size_of s ≤ store = rw size at f.within in
    rw (length-take, length-drop, length-take, length-drop) (omega (arith, room))

module _ (flash memory : List ℕ) (form : Form) (space address count : ℕ) (n : Names form space) (few : count ≤ 64) where
  read-read : (a : ReachResult) → Short (in_bytes (read_result flash memory form space address count a)) →
      ((s : Space) → a ≡ Ok s → 1 ≤ length (bytes_read flash memory s address count)) → ReadBack (read_result flash memory form space address count a)
  unfolding read_result WellFormed
  read-read (Err failure) h b = is_read (failed_read form space address _) (n, tt, omega arith) h
  read-read (Ok s) h b =
      let most : length (bytes_read flash memory s address count) ≤ 64 = rw length-take (omega arith) in
      is_read (read_reply form space address (bytes_read flash memory s address count)) (n, b s refl, most) h

-- what a read reaches
read_some : (x : Fixed) (c : Contents) (space address count : ℕ) → description_check x.alias x.spaces (length x.flash) (length c.memory) ≡ Ok tt → 1 ≤ count →
    (s : Space) → access false (found_in x space) address 1 ≡ Ok s → 1 ≤ length (bytes_read x.flash c.memory s address count)
read_some x c space address count g n s e =
    let r = reached false (found_in x space) address 1 s e in
    let f : Fine (length x.flash) (length c.memory) s = rw r.described at (good-find x.alias x.spaces (length x.flash) (length c.memory) space g) in
    some_bytes x.flash c.memory s address count f r.low r.high n

-- ---- writes

write_read : (form : Form) (space address n : ℕ) → Names form space → (a : ReachResult) → Short (in_bytes (write_result form space address n a)) → ReadBack (write_result form space address n a)
unfolding write_result WellFormed
write_read form space address n m (Err failure) h = is_read (failed_write form space address _) (m, tt, omega arith) h
write_read form space address n m (Ok s) h = tt

-- ---- space information

-- bit 1 of the flags that the board sends
flag_alone : (s : Space) → bit1 (access_flag s) ≡ 0
flag_alone s = cond-elim (λ n. bit1 n ≡ 0) s.read_only {a = 1} {b = 0} (λ _. refl) (λ _. refl)

flag_with_lowest : (s : Space) → bit1 (access_flag s + 2) ≡ 1
flag_with_lowest s = cond-elim (λ n. bit1 (n + 2) ≡ 1) s.read_only {a = 1} {b = 0} (λ _. refl) (λ _. refl)

information-read : (space : ℕ) (found : Found) → length (reply_bytes (information_reply space found)) ≤ 72 → ReadBack (received_ok_reply (information_reply space found))
unfolding information_reply WellFormed
information-read space (Described s) h = by-test (eqb s.lowest 0)
    (λ z. let k = rw z at h in rw z (is_read (information true space s.highest (access_flag s) no_address no_text) (flag_alone s, tt) k))
    (λ z. let k = rw z at h in rw z (is_read (information true space s.highest (access_flag s + 2) (lowest_address s.lowest) no_text) (flag_with_lowest s, tt) k))
information-read space (Empty read_only) h = is_read (absent_reply space) (refl, tt) h
information-read space Unknown h = is_read (absent_reply space) (refl, tt) h

-- ---- the lock

lock-six : (held id : List ℕ) → length held ≡ 6 → length id ≡ 6 → length (test_and_set held id) ≡ 6
unfolding test_and_set lock_after
lock-six held id h k =
    cond-elim (λ (l : List ℕ). length l ≡ 6) (eqb (length id) 6) {a = cond (all_zero id) id (cond (all_zero held) id held)} {b = held}
    (λ _. cond-elim (λ (l : List ℕ). length l ≡ 6) (all_zero id) {a = id} {b = cond (all_zero held) id held} (λ _. k)
    (λ _. cond-elim (λ (l : List ℕ). length l ≡ 6) (all_zero held) {a = id} {b = held} (λ _. k) (λ _. h)))
    (λ _. h)

-- ---- every request

module _ (x : Fixed) (c : Contents) (form : Form) (g : description_check x.alias x.spaces (length x.flash) (length c.memory) ≡ Ok tt) (six : length c.registers.lock ≡ 6) where
  performed_read : (q : Request) → Allowed q → Named form q → ReadBack (perform x c form q).result
  unfolding perform WellFormed
  performed_read (asked.read space address count) a n =
      read-read x.flash c.memory form space address count n a.1 (access false (found_in x space) address 1)
      (perform-short x c form (asked.read space address count) a refl tt) (read_some x c space address count g a.0)
  performed_read (asked.write space address bytes) a n =
      write_read form space address (length bytes) n (access true (found_in x space) address (length bytes)) (perform-short x c form (asked.write space address bytes) a refl tt)
  performed_read (asked.write_masked space address pairs) a n =
      write_read form space address (length pairs) n (access true (found_in x space) address (length pairs)) (perform-short x c form (asked.write_masked space address pairs) a refl tt)
  performed_read asked.options a n =
      is_read (options_reply x.write_lengths x.spaces) tt (perform-short x c form asked.options a refl tt)
  performed_read (asked.information space) a n = information-read space (found_in x space) (perform-short x c form (asked.information space) a refl tt)
  performed_read (asked.reserve id) a n =
      let l = lock-six c.registers.lock id six a in
      is_read (lock_reply (test_and_set c.registers.lock id)) l (perform-short x c form (asked.reserve id) a refl l)
  performed_read asked.update_complete a n = tt

replies-read : RepliesRead
replies-read x c d form q g six e =
    let a : Allowed q = rw e at (allowed d) in
    let n : Named form q = rw e at (named d) in
    performed_read x c form g six q a n

-- ---- transport replies

ok_read : (board tool flags : ℕ) (P : Frame → Type 0) → P (frame_of (0x19A28000 + board) (two_bytes tool ++ flags ∷ [])) → Each P (received_ok board tool flags)
unfolding received_ok
ok_read board tool flags P p =
    cond-elim (Each P) (aliases board tool) {a = frame_of (0x19A28000 + board) (two_bytes tool ++ flags ∷ []) ∷ []} {b = []} (λ _. (p, tt)) (λ _. tt)

code_read : (board tool code : ℕ) → Each (λ (f : Frame). read_rejection (content_of f) ≡ Some (rejection code (span 2 0))) (rejected_with board tool code)
unfolding rejected_with frame_of read_rejection
code_read board tool code =
    let two : code / 256 * 256 + code % 256 ≡ code = omega arith in
    cond-elim (Each (λ (f : Frame). read_rejection (content_of f) ≡ Some (rejection code (span 2 0)))) (aliases board tool)
    {a = frame_of (0x19A48000 + board) (two_bytes tool ++ two_bytes code) ∷ []} {b = []} (λ _. (rw two, tt)) (λ _. tt)

acknowledged : (board tool : ℕ) (a : Answer) → Each (Acknowledges a) (transport_frames board tool (transport_of a))
unfolding frame_of read_received
acknowledged board tool (answered.Rejected code) = code_read board tool code
acknowledged board tool (answered.Written index n) = ok_read board tool 0x00 (λ f. read_received (content_of f) ≡ Some (received false 0)) refl
acknowledged board tool answered.UpdateComplete = ok_read board tool 0x00 (λ f. read_received (content_of f) ≡ Some (received false 0)) refl
acknowledged board tool (answered.Replied n) = ok_read board tool 0x80 (λ f. read_received (content_of f) ≡ Some (received true 0)) refl

pub halves_meet : HalvesMeet
halves_meet = record { replies = replies-read; transport = record { to_answer = acknowledged; to_refusal = code_read } }
