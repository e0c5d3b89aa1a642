-- Whatever is found in a datagram is the reply that it is.
-- Assumes nothing.
use Prim.Native.Nat.{ℕ, suc, ◌+◌, ◌-◌, ◌*◌, ◌≤◌, ◌<◌}
use mathlib.Core.Path.{◌≡◌, refl, sym, ap, ◌∙◌}
use mathlib.Core.Bool.{Bool, true, false, cond, ◌&&◌}
use mathlib.Core.List.{List, [], ◌∷◌, ◌++◌, append-nil}
use Rattle.std.proofs.Common.{Option, None, Some}
use native.Mathlib.Omega.{arith}
use lib.Dec.{leb, ltb, eqb}
use lib.ListN.{length, get_or, drop, length-drop, drop_of_length-le}
use lib.Seq.{drop-cons, take_all}
use borrow.Author.Tests.{leb-true, ltb-true, eqb-true, eqb-false}
use Rattle.buffer.specs.Buffer.{AllBytes}
use Rattle.buffer.specs.BigEndian.{number_of, bytes_of, two_bytes}
use Rattle.buffer.proofs.Choice.{cond-elim, and_left, and_right, by-test}
use Rattle.buffer.proofs.Ends.{part_rest}
use Rattle.cmd_fields.specs.Commands.{within, form_in, space_of, address_of}
use Rattle.cmd_fields.proofs.HeadLaws.{bytes_back, two_back, six-first, head_back}
use Rattle.reply_spec.specs.ReplyForms.{Text, text_bytes, lowest_bytes, address_bytes, Reply, read, read_failure, write_done, write_failure, options, information, locked, Ended, EndedBehind, bit1, lowest_bit, WellFormed, IsReply}
use Rattle.tool_read_spec.specs.Finding.{is_text, text_from, kind_of_reply, head_in, or_none, options_in, information_in, target_in, failure_in, span, find_read, find_written, code_in, failure_fits, message_in, find_read_failure, find_write_failure, read_lowest, find_options, is_given, description_start, read_address, find_information, find_locked, find_kind, find_reply, bytes_from, text_of, lowest_of, lowest_address_of, reply_found}
use Rattle.tool_read_spec.specs.declared.ReplyIn.{ReplyIn}
use Rattle.tool_read_spec.specs.declared.ReplyIn.TheVariants as found
use Rattle.tool_read_spec.proofs.TextLaws.{text-sound}

-- a number that passes the test of a range is in it
pub within-true : (low high c : ℕ) → within low high c ≡ true → (low ≤ c) × (c ≤ high)
within-true low high c e = grind arith

two_first : (d : List ℕ) (i : ℕ) → i + 2 ≤ length d → drop i d ≡ get_or d i 0 ∷ get_or d (i + 1) 0 ∷ drop (i + 2) d
two_first d i h =
    let a : suc i ≡ i + 1 = omega arith in
    let b : suc (suc i) ≡ i + 2 = omega arith in
    drop-cons d i 0 (omega arith) ∙ ap (λ (l : List ℕ). get_or d i 0 ∷ l) (rw (← a, ← b) (drop-cons d (suc i) 0 (omega arith)))

module _ (d : List ℕ) where
  abbrev Sound : Option ReplyIn → Type 0
  Sound r = (x : Reply) → reply_found r d ≡ Some x → IsReply d x

  none-sound : Sound None
  unfolding reply_found
  none-sound x e = let z : ◌≡◌ {A = ℕ} 0 1 = cc in absurd (omega arith)

  -- a reply that is what was found
  same : (y : Reply) → IsReply d y → (x : Reply) → Some y ≡ Some x → IsReply d x
  same y p x e = let q : y ≡ x = cc in rw (← q) p

  or_none_lem : (t : Bool) (r : ReplyIn) → (t ≡ true → Sound (Some r)) → Sound (or_none t r)
  or_none_lem t r g = cond-elim Sound t g (λ _. none-sound)

  module _ (bytes : AllBytes d) (first : get_or d 0 0 ≡ 0x20) (short : length d ≤ 72) where
    -- ---- replies with an address

    read-sound : 0x50 ≤ get_or d 1 0 → get_or d 1 0 ≤ 0x53 → Sound (find_read d)
    unfolding find_read reply_found WellFormed
    read-sound l h =
        or_none_lem (ltb (head_in d) (length d) && leb (length d - head_in d) 64) (found.Read (target_in d) (span (head_in d) (length d - head_in d))) (λ t.
        let a : head_in d < length d = ltb-true _ _ (and_left (ltb (head_in d) (length d)) _ t) in
        let b : length d - head_in d ≤ 64 = leb-true _ _ (and_right (ltb (head_in d) (length d)) _ t) in
        let p = head_back d bytes first 0x50 refl (omega arith) l h (omega arith) in
        let n : length (bytes_from (head_in d) (length d - head_in d) d) ≡ length d - head_in d = rw part_rest (length-drop (head_in d) d) in
        same (read (form_in d) (space_of (form_in d) d) (address_of d) (bytes_from (head_in d) (length d - head_in d) d))
        (rw part_rest p.0, (p.1, omega (arith, n, a), omega (arith, n, b)), short))

    written-sound : 0x10 ≤ get_or d 1 0 → get_or d 1 0 ≤ 0x13 → Sound (find_written d)
    unfolding find_written reply_found WellFormed
    written-sound l h =
        or_none_lem (eqb (length d) (head_in d)) (found.WriteDone (target_in d)) (λ t.
        let a : length d ≡ head_in d = eqb-true _ _ t in
        let p = head_back d bytes first 0x10 refl (omega arith) l h (omega arith) in
        let n : drop (head_in d) d ≡ [] = drop_of_length-le d {i = head_in d} (omega arith) in
        same (write_done (form_in d) (space_of (form_in d) d) (address_of d)) (rw (n, append-nil) at p.0, p.1, short))

    -- a code and a message behind the first bytes
    module _ (t : failure_fits d ≡ true) where
      room : head_in d + 2 ≤ length d
      unfolding failure_fits
      room = leb-true _ _ (and_left (leb (head_in d + 2) (length d)) _ t)

      message : Text
      message = text_of (message_in d) d

      is-text : Ended message × (text_bytes message ≡ drop (head_in d + 2) d)
      unfolding failure_fits message
      is-text =
          text-sound d (head_in d + 2) room
          (and_right (leb (length d - (head_in d + 2)) 63) _ (and_right (leb (head_in d + 2) (length d)) _ t))

      few : length (text_bytes message) ≤ 63
      unfolding failure_fits
      few =
          let k : length d - (head_in d + 2) ≤ 63 = leb-true _ _ (and_left (leb (length d - (head_in d + 2)) 63) _ (and_right (leb (head_in d + 2) (length d)) _ t)) in
          rw (is-text.1, length-drop (head_in d + 2) d) k

      code-and-message : two_bytes (code_in d) ++ text_bytes message ≡ drop (head_in d) d
      code-and-message =
          ap (λ (l : List ℕ). l ++ text_bytes message) (two_back (get_or d (head_in d) 0) (get_or d (head_in d + 1) 0) (bytes (head_in d + 1)))
          ∙ rw is-text.1 (sym (two_first d (head_in d) room))

    read-failure_sound : 0x58 ≤ get_or d 1 0 → get_or d 1 0 ≤ 0x5B → Sound (find_read_failure d)
    unfolding reply_found WellFormed message
    read-failure_sound l h =
        or_none_lem (failure_fits d) (found.ReadFailure (failure_in d)) (λ t.
        let p = head_back d bytes first 0x58 refl (omega arith) l h (omega (arith, room t)) in
        same (read_failure (form_in d) (space_of (form_in d) d) (address_of d) (code_in d) (message t))
        (rw (code-and-message t) p.0, (p.1, (is-text t).0, few t), short))

    write-failure_sound : 0x18 ≤ get_or d 1 0 → get_or d 1 0 ≤ 0x1B → Sound (find_write_failure d)
    unfolding reply_found WellFormed message
    write-failure_sound l h =
        or_none_lem (failure_fits d) (found.WriteFailure (failure_in d)) (λ t.
        let p = head_back d bytes first 0x18 refl (omega arith) l h (omega (arith, room t)) in
        same (write_failure (form_in d) (space_of (form_in d) d) (address_of d) (code_in d) (message t))
        (rw (code-and-message t) p.0, (p.1, (is-text t).0, few t), short))

    -- ---- options

    lowest-sound : 6 ≤ length d → is_text (drop 7 d) ≡ true → EndedBehind (lowest_of (read_lowest d) d) × (lowest_bytes (lowest_of (read_lowest d) d) ≡ drop 6 d)
    lowest-sound l t = by-test (eqb (length d) 6)
        (λ z. rw z (tt, sym (drop_of_length-le d {i = 6} (omega (arith, eqb-true (length d) 6 z)))))
        (λ z.
        let n = eqb-false (length d) 6 z in
        let k : 7 ≤ length d = omega (arith, n) in
        let p = text-sound d 7 k t in
        rw z (p.0, ap (λ (r : List ℕ). get_or d 6 0 ∷ r) p.1 ∙ sym (drop-cons d 6 0 (omega arith))))

    options-sound : get_or d 1 0 ≡ 0x82 → Sound (find_options d)
    unfolding find_options reply_found WellFormed
    options-sound e =
        or_none_lem (leb 6 (length d) && is_text (drop 7 d)) (found.Options (options_in d)) (λ t.
        let l : 6 ≤ length d = leb-true _ _ (and_left (leb 6 (length d)) _ t) in
        let p = lowest-sound l (and_right (leb 6 (length d)) _ t) in
        same (options (get_or d 2 0 * 256 + get_or d 3 0) (get_or d 4 0) (get_or d 5 0) (lowest_of (read_lowest d) d)) (
          ap (λ (b : List ℕ). 0x20 ∷ 0x82 ∷ (b ++ get_or d 4 0 ∷ get_or d 5 0 ∷ lowest_bytes (lowest_of (read_lowest d) d))) (two_back (get_or d 2 0) (get_or d 3 0) (bytes 3))
              ∙ rw (p.1, ← e, ← first) (six-first d l),
          p.0,
          short,
        ))

    -- ---- space information

    eight-first : 8 ≤ length d → 0x20 ∷ get_or d 1 0 ∷ get_or d 2 0 ∷ (bytes_of (number_of (get_or d 3 0) (get_or d 4 0) (get_or d 5 0) (get_or d 6 0)) ++ get_or d 7 0 ∷ drop 8 d) ≡ d
    eight-first l =
        ap (λ (b : List ℕ). 0x20 ∷ get_or d 1 0 ∷ get_or d 2 0 ∷ (b ++ get_or d 7 0 ∷ drop 8 d)) (bytes_back (get_or d 3 0) (get_or d 4 0) (get_or d 5 0) (get_or d 6 0) (bytes 4) (bytes 5) (bytes 6))
        ∙ rw (← first) (sym (sym (six-first d (omega arith)) ∙ ap (λ (r : List ℕ). get_or d 0 0 ∷ get_or d 1 0 ∷ get_or d 2 0 ∷ get_or d 3 0 ∷ get_or d 4 0 ∷ get_or d 5 0 ∷ r) (two_first d 6 l)))

    low_sound : description_start d ≤ length d → is_text (drop (description_start d) d) ≡ true →
        (8 ≤ length d) × (bit1 (get_or d 7 0) ≡ lowest_bit (lowest_address_of (read_address d))) × Ended (text_of (text_from (description_start d) (length d)) d)
        × (address_bytes (lowest_address_of (read_address d)) ++ text_bytes (text_of (text_from (description_start d) (length d)) d) ≡ drop 8 d)
    low_sound l t = by-test (is_given d)
        (λ z.
        let k : 12 ≤ length d = rw z at l in
        let p = text-sound d 12 k (rw z at t) in
        rw z (
          omega arith,
          eqb-true (bit1 (get_or d 7 0)) 1 z,
          p.0,
          ap (λ (b : List ℕ). b ++ text_bytes (text_of (text_from 12 (length d)) d)) (bytes_back (get_or d 8 0) (get_or d 9 0) (get_or d 10 0) (get_or d 11 0) (bytes 9) (bytes 10) (bytes 11))
              ∙ rw p.1 (sym (two_first d 8 (omega arith) ∙ ap (λ (r : List ℕ). get_or d 8 0 ∷ get_or d 9 0 ∷ r) (two_first d 10 (omega arith)))),
        ))
        (λ z.
        let k : 8 ≤ length d = rw z at l in
        let p = text-sound d 8 k (rw z at t) in
        let n = eqb-false (bit1 (get_or d 7 0)) 1 z in
        rw z (k, omega (arith, n), p.0, p.1))

    information-sound : (present : Bool) → get_or d 1 0 ≡ cond present 0x87 0x86 → Sound (find_information present d)
    unfolding find_information reply_found WellFormed
    information-sound present e =
        or_none_lem (leb (description_start d) (length d) && is_text (drop (description_start d) d))
        (found.Information (information_in present d)) (λ t.
        let p = low_sound (leb-true _ _ (and_left (leb (description_start d) (length d)) _ t)) (and_right (leb (description_start d) (length d)) _ t) in
        same (information present (get_or d 2 0) (number_of (get_or d 3 0) (get_or d 4 0) (get_or d 5 0) (get_or d 6 0)) (get_or d 7 0) (lowest_address_of (read_address d)) (text_of (text_from (description_start d) (length d)) d))
        (rw (p.3, ← e) (eight-first p.0), (p.1, p.2), short))

    -- ---- the lock

    locked-sound : get_or d 1 0 ≡ 0x8A → Sound (find_locked d)
    unfolding find_locked reply_found WellFormed
    locked-sound e =
        or_none_lem (eqb (length d) 8) (found.Locked (span 2 6)) (λ t.
        let l : length d ≡ 8 = eqb-true _ _ t in
        let n : length (drop 2 d) ≡ 6 = length-drop 2 d ∙ omega arith in
        let a : bytes_from 2 6 d ≡ drop 2 d = take_all 6 (drop 2 d) (omega arith) in
        same (locked (bytes_from 2 6 d)) (rw (a, ← e, ← first) (sym (two_first d 0 (omega arith))), rw a n, short))

    -- ---- all

    kind-sound : Sound (find_kind (kind_of_reply (get_or d 1 0)) d)
    unfolding kind_of_reply find_kind
    kind-sound =
        let c = get_or d 1 0 in
        cond-elim (λ k. Sound (find_kind k d)) (within 0x50 0x53 c) (λ t. let w = within-true 0x50 0x53 c t in read-sound w.0 w.1)
        (λ _. cond-elim (λ k. Sound (find_kind k d)) (within 0x58 0x5B c) (λ t. let w = within-true 0x58 0x5B c t in read-failure_sound w.0 w.1)
        (λ _. cond-elim (λ k. Sound (find_kind k d)) (within 0x10 0x13 c) (λ t. let w = within-true 0x10 0x13 c t in written-sound w.0 w.1)
        (λ _. cond-elim (λ k. Sound (find_kind k d)) (within 0x18 0x1B c) (λ t. let w = within-true 0x18 0x1B c t in write-failure_sound w.0 w.1)
        (λ _. cond-elim (λ k. Sound (find_kind k d)) (eqb c 0x82) (λ t. options-sound (eqb-true _ _ t))
        (λ _. cond-elim (λ k. Sound (find_kind k d)) (eqb c 0x86) (λ t. information-sound false (eqb-true _ _ t))
        (λ _. cond-elim (λ k. Sound (find_kind k d)) (eqb c 0x87) (λ t. information-sound true (eqb-true _ _ t))
        (λ _. cond-elim (λ k. Sound (find_kind k d)) (eqb c 0x8A) (λ t. locked-sound (eqb-true _ _ t))
        (λ _. none-sound))))))))

  pub sound : AllBytes d → Sound (find_reply d)
  unfolding find_reply
  sound bytes =
      cond-elim Sound (leb 2 (length d) && (leb (length d) 72 && eqb (get_or d 0 0) 0x20)) (λ t.
      let u = and_right (leb 2 (length d)) _ t in
      kind-sound bytes (eqb-true _ _ (and_right (leb (length d) 72) _ u)) (leb-true _ _ (and_left (leb (length d) 72) _ u)))
      (λ _. none-sound)
