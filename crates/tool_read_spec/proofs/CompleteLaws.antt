-- Every reply of the language is found, with its fields.
-- Assumes nothing.
use Prim.Native.Nat.{ℕ, ◌+◌, ◌-◌, ◌*◌, ◌/◌, ◌%◌, ◌≤◌}
use mathlib.Core.Path.{◌≡◌, refl, sym, ap, ◌∙◌}
use mathlib.Core.Bool.{Bool, true, false}
use mathlib.Core.List.{List, [], ◌++◌, append-nil}
use Rattle.std.proofs.Common.{Some}
use native.Mathlib.Nat.{add-zero}
use native.Mathlib.Omega.{arith}
use lib.ListN.{length, get_or, drop, length-drop}
use lib.Seq.{take_all, get_or-drop, drop-drop}
use borrow.Author.Tests.{eq-eqb, ne_eqb, lt-ltb, le-leb}
use Rattle.buffer.specs.BigEndian.{number_of, two_bytes}
use Rattle.cmd_fields.specs.Commands.{form_of, Names, head_bytes, form_in, head_length}
use Rattle.cmd_fields.specs.declared.Form.{Form}
use Rattle.cmd_fields.proofs.HeadLaws.{number-back, Headed, headed, form_back}
use Rattle.reply_spec.specs.ReplyForms.{Text, text_bytes, Lowest, no_lowest, lowest, LowestAddress, no_address, lowest_address, address_bytes, Reply, read, read_failure, write_done, write_failure, options, information, locked, reply_bytes, Ended, EndedBehind, bit1, lowest_bit, WellFormed, IsReply}
use Rattle.tool_read_spec.specs.Finding.{is_text, kind_of_reply, find_read, find_written, code_in, failure_fits, message_in, find_options, find_information, find_locked, find_kind, find_reply, text_of, reply_found}
use Rattle.tool_read_spec.specs.declared.ReplyKind.{ReplyKind}
use Rattle.tool_read_spec.specs.declared.ReplyKind.TheVariants as kind
use Rattle.tool_read_spec.proofs.KindLaws.{is_read, is-read-failure, is-written, is-write-failure}
use Rattle.tool_read_spec.proofs.TextLaws.{text-is, text-found}

found-kind : (d : List ℕ) (k : ReplyKind) → 2 ≤ length d → length d ≤ 72 → get_or d 0 0 ≡ 0x20 → kind_of_reply (get_or d 1 0) ≡ k → find_reply d ≡ find_kind k d
unfolding find_reply
found-kind d k l h f e = rw (le-leb 2 (length d) l, le-leb (length d) 72 h, eq-eqb (get_or d 0 0) 0x20 f, e)

-- ---- replies with an address

module _ (d : List ℕ) (short : length d ≤ 72) (form : Form) (space address : ℕ) (n : Names form space) where
  read-complete : (bytes : List ℕ) → 1 ≤ length bytes → length bytes ≤ 64 → Headed 0x50 form space address bytes d →
      reply_found (find_reply d) d ≡ Some (read form space address bytes)
  unfolding find_kind find_read reply_found
  read-complete bytes l h f =
      let e : form_in d ≡ form = ap form_of f.second ∙ form_back form space 0x50 n (omega arith) in
      let k = is_read (get_or d 1 0) (omega (arith, f.second, f.bits)) (omega (arith, f.second, f.bits)) in
      rw (found-kind d kind.Read (omega (arith, f.size, f.least)) short f.first k, e, lt-ltb (head_length form) (length d) (omega (arith, f.size)), le-leb (length d - head_length form) 64 (omega (arith, f.size)), f.named, f.addressed, f.behind)
      (ap (λ (b : List ℕ). Some (read form space address b)) (take_all (length d - head_length form) bytes (omega (arith, f.size))))

  written-complete : Headed 0x10 form space address [] d → reply_found (find_reply d) d ≡ Some (write_done form space address)
  unfolding find_kind find_written reply_found
  written-complete f =
      let e : form_in d ≡ form = ap form_of f.second ∙ form_back form space 0x10 n (omega arith) in
      let k = is-written (get_or d 1 0) (omega (arith, f.second, f.bits)) (omega (arith, f.second, f.bits)) in
      rw (found-kind d kind.WriteDone (omega (arith, f.size, f.least)) short f.first k, e, eq-eqb (length d) (head_length form) (omega (arith, f.size)), f.named, f.addressed)

  module _ (code : ℕ) (message : Text) (ended : Ended message) (few : length (text_bytes message) ≤ 63) {command : ℕ}
      (f : Headed command form space address (two_bytes code ++ text_bytes message) d) (e : form_in d ≡ form) where
    message_behind : drop (head_length form + 2) d ≡ text_bytes message
    message_behind = sym (drop-drop 2 (head_length form) d) ∙ ap (λ (l : List ℕ). drop 2 l) f.behind

    size : length d ≡ head_length form + 2 + length (text_bytes message)
    size = omega (arith, f.size)

    fits : failure_fits d ≡ true
    unfolding failure_fits
    fits =
        rw (e, le-leb (head_length form + 2) (length d) (omega (arith, size)), le-leb (length d - (head_length form + 2)) 63 (omega (arith, size, few)), message_behind)
        (text-is message ended)

    code-byte : (i : ℕ) → get_or d (head_length form + i) 0 ≡ get_or (two_bytes code ++ text_bytes message) i 0
    code-byte i = sym (get_or-drop (head_length form) d i 0) ∙ ap (λ (l : List ℕ). get_or l i 0) f.behind

    is_code : code_in d ≡ code
    is_code =
        let a : get_or d (head_length form) 0 ≡ code / 256 = ap (λ (i : ℕ). get_or d i 0) (sym (add-zero (head_length form))) ∙ code-byte 0 in
        let b : get_or d (head_length form + 1) 0 ≡ code % 256 = code-byte 1 in
        rw (e, a, b) (omega arith)

    is-message : text_of (message_in d) d ≡ message
    is-message = rw e (text-found message d (head_length form + 2) message_behind (omega (arith, size)))

  read-failure_complete : (code : ℕ) (message : Text) → Ended message → length (text_bytes message) ≤ 63 →
      Headed 0x58 form space address (two_bytes code ++ text_bytes message) d → reply_found (find_reply d) d ≡ Some (read_failure form space address code message)
  unfolding find_kind reply_found
  read-failure_complete code message t h f =
      let e : form_in d ≡ form = ap form_of f.second ∙ form_back form space 0x58 n (omega arith) in
      let k = is-read-failure (get_or d 1 0) (omega (arith, f.second, f.bits)) (omega (arith, f.second, f.bits)) in
      rw (found-kind d kind.ReadFailure (omega (arith, f.size, f.least)) short f.first k, fits code message t h f e, is-message code message t h f e, is_code code message t h f e, e, f.named, f.addressed)

  write-failure_complete : (code : ℕ) (message : Text) → Ended message → length (text_bytes message) ≤ 63 →
      Headed 0x18 form space address (two_bytes code ++ text_bytes message) d → reply_found (find_reply d) d ≡ Some (write_failure form space address code message)
  unfolding find_kind reply_found
  write-failure_complete code message t h f =
      let e : form_in d ≡ form = ap form_of f.second ∙ form_back form space 0x18 n (omega arith) in
      let k = is-write-failure (get_or d 1 0) (omega (arith, f.second, f.bits)) (omega (arith, f.second, f.bits)) in
      rw (found-kind d kind.WriteFailure (omega (arith, f.size, f.least)) short f.first k, fits code message t h f e, is-message code message t h f e, is_code code message t h f e, e, f.named, f.addressed)

-- ---- options

two_of_lem : (n : ℕ) → n / 256 * 256 + n % 256 ≡ n
two_of_lem n = omega arith

module _ (commands lengths highest : ℕ) where
  options-complete : (low : Lowest) → EndedBehind low → length (reply_bytes (options commands lengths highest low)) ≤ 72 →
      reply_found (find_reply (reply_bytes (options commands lengths highest low))) (reply_bytes (options commands lengths highest low)) ≡ Some (options commands lengths highest low)
  unfolding kind_of_reply find_kind find_options reply_found is_text
  options-complete no_lowest t h =
      rw (found-kind (reply_bytes (options commands lengths highest no_lowest)) kind.Options (omega arith) h refl refl, two_of_lem commands)
  options-complete (lowest space name) t h =
      let d = reply_bytes (options commands lengths highest (lowest space name)) in
      rw (found-kind d kind.Options (omega arith) h refl refl, le-leb 6 (length d) (omega arith), text-is name t, ne_eqb (length d) 6 (λ z. omega arith), text-found name d 7 refl (omega arith), two_of_lem commands)

-- ---- space information

module _ (present : Bool) (d : List ℕ) (space highest flags : ℕ) (description : Text) (t : Ended description) (s : get_or d 2 0 ≡ space)
    (h : number_of (get_or d 3 0) (get_or d 4 0) (get_or d 5 0) (get_or d 6 0) ≡ highest) (f : get_or d 7 0 ≡ flags) (l : 8 ≤ length d) where
  information-found : (low : LowestAddress) → bit1 flags ≡ lowest_bit low → drop 8 d ≡ address_bytes low ++ text_bytes description →
      reply_found (find_information present d) d ≡ Some (information present space highest flags low description)
  unfolding find_information reply_found
  information-found no_address z b =
      let is : is_text (drop 8 d) ≡ true = rw b (text-is description t) in
      rw (f, ne_eqb (bit1 flags) 1 (λ o. omega (arith, o, z)), le-leb 8 (length d) l, is, text-found description d 8 b l, s, h)
  information-found (lowest_address low) z b =
      let behind : drop 12 d ≡ text_bytes description = sym (drop-drop 4 8 d) ∙ ap (λ (x : List ℕ). drop 4 x) b in
      let size : length d - 8 ≡ length (address_bytes (lowest_address low) ++ text_bytes description) = sym (length-drop 8 d) ∙ ap (λ (x : List ℕ). length x) b in
      let low_is : number_of (get_or d 8 0) (get_or d 9 0) (get_or d 10 0) (get_or d 11 0) ≡ low =
      rw (← get_or-drop 8 d 0 0, ← get_or-drop 8 d 1 0, ← get_or-drop 8 d 2 0, ← get_or-drop 8 d 3 0, b) (number-back low) in
      let is : is_text (drop 12 d) ≡ true = rw behind (text-is description t) in
      rw (f, eq-eqb (bit1 flags) 1 z, le-leb 12 (length d) (omega arith), is, text-found description d 12 behind (omega arith), s, h, low_is)

information-complete : (present : Bool) (space highest flags : ℕ) (low : LowestAddress) (description : Text) → bit1 flags ≡ lowest_bit low → Ended description →
    length (reply_bytes (information present space highest flags low description)) ≤ 72 →
    reply_found (find_reply (reply_bytes (information present space highest flags low description))) (reply_bytes (information present space highest flags low description))
    ≡ Some (information present space highest flags low description)
unfolding find_kind kind_of_reply
information-complete true space highest flags low description z t h =
    let d = reply_bytes (information true space highest flags low description) in
    rw (found-kind d kind.Present (omega arith) h refl refl) (information-found true d space highest flags description t refl (number-back highest) refl (omega arith) low z refl)
information-complete false space highest flags low description z t h =
    let d = reply_bytes (information false space highest flags low description) in
    rw (found-kind d kind.Absent (omega arith) h refl refl) (information-found false d space highest flags description t refl (number-back highest) refl (omega arith) low z refl)

-- ---- the lock

locked-complete : (id : List ℕ) → length id ≡ 6 → length (reply_bytes (locked id)) ≤ 72 → reply_found (find_reply (reply_bytes (locked id))) (reply_bytes (locked id)) ≡ Some (locked id)
unfolding find_kind kind_of_reply find_locked reply_found
locked-complete id e h =
    let d = reply_bytes (locked id) in
    rw (found-kind d kind.Locked (omega arith) h refl refl, eq-eqb (length d) 8 (omega arith)) (ap (λ (l : List ℕ). Some (locked l)) (take_all 6 id (omega arith)))

-- ---- all

complete-at : (x : Reply) → WellFormed x → length (reply_bytes x) ≤ 72 → reply_found (find_reply (reply_bytes x)) (reply_bytes x) ≡ Some x
unfolding WellFormed
complete-at (read form space address bytes) f h =
    read-complete (head_bytes 0x50 form space address ++ bytes) h form space address f.0 bytes f.1 f.2 (headed 0x50 form space address bytes f.0)
complete-at (read_failure form space address code message) f h =
    read-failure_complete (head_bytes 0x58 form space address ++ (two_bytes code ++ text_bytes message)) h form space address f.0 code message f.1 f.2
    (headed 0x58 form space address (two_bytes code ++ text_bytes message) f.0)
complete-at (write_done form space address) f h =
    written-complete (head_bytes 0x10 form space address) h form space address f (rw append-nil at (headed 0x10 form space address [] f))
complete-at (write_failure form space address code message) f h =
    write-failure_complete (head_bytes 0x18 form space address ++ (two_bytes code ++ text_bytes message)) h form space address f.0 code message f.1 f.2
    (headed 0x18 form space address (two_bytes code ++ text_bytes message) f.0)
complete-at (options commands lengths highest low) f h = options-complete commands lengths highest low f h
complete-at (information present space highest flags low description) f h = information-complete present space highest flags low description f.0 f.1 h
complete-at (locked id) f h = locked-complete id f h

pub complete : (d : List ℕ) (x : Reply) → IsReply d x → reply_found (find_reply d) d ≡ Some x
complete d x p = rw (← p.0) (complete-at x p.1 (rw p.0 p.2))
