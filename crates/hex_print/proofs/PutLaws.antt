-- Laws of digits that are put into a buffer part by part.
-- Assumes nothing.
use Prim.Native.Nat.{ℕ, zero, suc, ◌+◌, ◌-◌, ◌*◌, ◌/◌, ◌%◌, ◌≤◌, ◌<◌}
use mathlib.Core.Path.{◌≡◌, refl, sym, ap, ◌∙◌}
use mathlib.Core.Bool.{not, cond}
use mathlib.Core.List.{List, [], ◌∷◌}
use native.Mathlib.Numerals.{add-one}
use native.Mathlib.Omega.{arith}
use lib.Bits.{bit_and, and_high}
use lib.Dec.{eqb, ltb}
use lib.ListN.{length, take, drop, get_or, set, length-drop}
use lib.Seq.{take-add, drop-cons, drop-drop, length-take-le}
use borrow.Author.Tests.{eq-eqb, ne_eqb, ltb-true, ltb-false}
use Rattle.buffer.specs.Buffer.{put_at, placed}
use Rattle.buffer.proofs.Choice.{by-test}
use Rattle.buffer.proofs.Laws.{put_nil, put_behind, put_length, put_sets, placed-fits, placed-not}
use Rattle.hex_digit.specs.Digit.{digit_of}
use Rattle.hex_print.specs.Digits.{digits_of, hex_digits}
use Rattle.hex_print.proofs.DigitLaws.{length_digits, digits_append, two_digits}

-- the digits of the first i bytes take twice as many
put_size : (s : List ℕ) (i : ℕ) → i ≤ length s → length (digits_of (take i s)) ≡ i * 2
put_size s i h = length_digits (take i s) ∙ ap (λ (n : ℕ). n * 2) (length-take-le i s h)

-- whether the digits of all fit
module _ (s o : List ℕ) (at : ℕ) where
  pub no_room : length o < at + length s * 2 → o ≡ placed at (digits_of s) o
  no_room h = let l = length_digits s in placed-not at (digits_of s) o (omega arith)

  pub room : {o' : List ℕ} → at + length s * 2 ≤ length o → o' ≡ put_at at (digits_of s) o → o' ≡ placed at (digits_of s) o
  room h e = let l = length_digits s in e ∙ sym (placed-fits at (digits_of s) o (omega arith))

-- of no bytes nothing is put
pub put_none : (s o : List ℕ) (at : ℕ) → o ≡ put_at at (digits_of (take 0 s)) o
unfolding digits_of
put_none s o at = sym (put_nil at o)

-- the digits of one byte
pub digits-of_one : (s : List ℕ) (i : ℕ) → i < length s → digits_of (take 1 (drop i s)) ≡ hex_digits 2 (get_or s i 0)
unfolding digits_of hex_digits
digits-of_one s i h = rw (drop-cons s i 0 h)

-- n bytes from index i on, as the code says it
module _ (s : List ℕ) (i n : ℕ) where
  pub part_size : i + n ≤ length s → length (take (i + n - i) (drop i s)) ≡ n
  part_size h = let l = length-drop i s in length-take-le (i + n - i) (drop i s) (omega arith) ∙ omega arith

  pub of_part : (o : List ℕ) {o' : List ℕ} (at : ℕ) → o' ≡ put_at (at + i + i) (digits_of (take (i + n - i) (drop i s))) o
      → o' ≡ put_at (at + i * 2) (digits_of (take n (drop i s))) o
  of_part o at e = let two : at + i + i ≡ at + i * 2 = omega arith in let m : i + n - i ≡ n = omega arith in e ∙ rw (two, m)

-- of the first i bytes the digits are put
abbrev pub Put : List ℕ → List ℕ → ℕ → ℕ → List ℕ → Type 0
Put s o at i after = after ≡ put_at at (digits_of (take i s)) o

module _ (s o : List ℕ) (at i : ℕ) {o' : List ℕ} (p : Put s o at i o') (k : at + length s * 2 ≤ length o) where
  pub put_kept : i ≤ length s → length o' ≡ length o
  put_kept h = let l = put_size s i h in ap length p ∙ put_length at (digits_of (take i s)) o (omega arith) (omega arith)

  -- n bytes more, up to index r
  pub put_next : (n r : ℕ) {o'' : List ℕ} → r ≡ i + n → i + n ≤ length s → o'' ≡ put_at (at + i * 2) (digits_of (take n (drop i s))) o' → Put s o at r o''
  put_next n r q h e =
      let l = put_size s i (omega arith) in
      e
      ∙ rw (p, ← l, put_behind at (digits_of (take i s)) (digits_of (take n (drop i s))) o (omega arith), ← digits_append (take i s) (take n (drop i s)), q, take-add i n s)

  pub put_byte : {o'' : List ℕ} → i < length s → o'' ≡ put_at (at + i + i) (hex_digits 2 (get_or s i 0)) o' → Put s o at (i + 1) o''
  put_byte h e = let two : at + i + i ≡ at + i * 2 = omega arith in put_next 1 (i + 1) refl (omega arith) (e ∙ rw (two, digits-of_one s i h))

-- eight bytes more, where k times eight were put from index `from` on
pub put_turn : (s o : List ℕ) (at from k : ℕ) {o' o'' : List ℕ} → Put (drop from s) o (at + from * 2) (k * 8) o' → at + length s * 2 ≤ length o → from + (k + 1) * 8 ≤ length s
    → o'' ≡ put_at (at + (from + k * 8) + (from + k * 8)) (digits_of (take (from + k * 8 + 8 - (from + k * 8)) (drop (from + k * 8) s))) o'
    → Put (drop from s) o (at + from * 2) ((k + 1) * 8) o''
put_turn s o at from k {o'} p f h e =
    let l = length-drop from s in
    let i : ℕ = from + k * 8 in
    let place : at + i * 2 ≡ at + from * 2 + k * 8 * 2 = omega arith in
    let rest : drop i s ≡ drop (k * 8) (drop from s) = rw drop-drop in
    put_next (drop from s) o (at + from * 2) (k * 8) p (omega arith) 8 ((k + 1) * 8) (omega arith) (omega arith) (of_part s i 8 o' at e ∙ rw (place, rest))

-- the two digits of a byte, stored one by one
pub put_two : (o : List ℕ) (at b : ℕ) → b < 256 → at + 1 < length o → set (set o at (digit_of (b / 16))) (at + 1) (digit_of (b % 16)) ≡ put_at at (hex_digits 2 b) o
put_two o at b h k =
    rw (add-one at) (put_sets at (digit_of (b / 16) ∷ digit_of (b % 16) ∷ []) o (omega arith)) ∙ ap (λ (t : List ℕ). put_at at t o) (two_digits b h)

-- as many bytes as a bit of their number says
bit : (q m a : ℕ) → q < 2 → a ≡ q * m → 0 < m → cond (not (eqb a 0)) m 0 ≡ q * m
bit zero m a h e k = rw (eq-eqb a 0 (omega arith)) (omega arith)
bit (suc zero) m a h e k = rw (ne_eqb a 0 (λ z. omega arith)) (omega arith)
bit (suc (suc q)) m a h e k = absurd (omega (arith, add-one q, add-one (suc q)))

abbrev pub two_of : ℕ → ℕ
two_of n = cond (not (eqb (bit_and n 2) 0)) 2 0

abbrev pub four_of : ℕ → ℕ
four_of n = cond (not (eqb (bit_and n 4) 0)) 4 0

module _ (n : ℕ) where
  pub bit_of_2 : two_of n ≡ n / 2 % 2 * 2
  bit_of_2 = bit (n / 2 % 2) 2 (bit_and n 2) (omega arith) (and_high n 1 1) (omega arith)

  pub bit_of_4 : four_of n ≡ n / 4 % 2 * 4
  bit_of_4 = bit (n / 4 % 2) 4 (bit_and n 4) (omega arith) (and_high n 1 2) (omega arith)

  -- what is left behind these are eights, and one byte more where the number is odd
  pub eights_left : (n - (n / 2 % 2 * 2 + n / 4 % 2 * 4)) / 8 * 8 + (n / 2 % 2 * 2 + n / 4 % 2 * 4) + n % 2 ≡ n
  eights_left =
      let h : n / 4 ≡ n / 2 / 2 = omega arith in
      let k : n / 8 ≡ n / 4 / 2 = omega arith in
      let e : n - (n / 2 % 2 * 2 + n / 4 % 2 * 4) ≡ n / 8 * 8 + n % 2 = omega arith in
      omega arith

  -- the last byte, where one is left
  pub one_left : (r : ℕ) → r ≤ n → n ≤ r + 1 → cond (ltb r n) 1 0 ≡ n - r
  one_left r h k =
      by-test (ltb r n)
      (λ e. let l = ltb-true r n e in rw e (omega arith))
      (λ e. let l = ltb-false r n e in rw e (omega arith))
