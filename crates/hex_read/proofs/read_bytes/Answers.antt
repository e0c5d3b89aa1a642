-- `read_bytes` meets its contract. The invariant: what is left decides whether all are digits, and if they are, storing its bytes makes
-- the bytes of the whole.
-- Assumes nothing.
use Prim.Native.Nat.{ℕ, ◌+◌, ◌*◌, ◌-◌, ◌%◌, ◌≤◌, ◌<◌}
use mathlib.Core.Path.{◌≡◌, sym, ap, ◌∙◌}
use mathlib.Core.Bool.{true, false}
use mathlib.Core.List.{List, [], ◌++◌}
use native.Mathlib.Numerals.{add-one}
use native.Mathlib.Omega.{arith}
use borrow.Author.Tests.{le-leb, lt-leb, eq-eqb, ne_eqb}
use lib.Bits.{bit_and, bit_or, and_mask}
use lib.ListN.{length, drop, get_or, set, replicate, drop_of_length-le}
use lib.Seq.{sets}
use Rattle.buffer.proofs.Laws.{put_sets, put_first, over_zeros}
use Rattle.hex_digit.specs.Digit.{digit_value}
use Rattle.hex_print.specs.Digits.{all_digits}
use Rattle.hex_read.specs.Reading.{bytes_in, read_of}
use Rattle.std.specs.Prelude.{Some, None}
use Rattle.hex_read.proofs.BackLaws.{bytes-read-back, bytes-again}
use Rattle.hex_read.proofs.ReadLaws.{Passed, passed, small, one-bad, all-good, next_pair, pair-value, half}
use Rattle.hex_read.proofs.read_bytes.Goals as goal
use Rattle.hex_read.proofs.read_bytes.Goals.{then-size-gt16-via-then-size-gt16, then-size-gt16-via-else-size-gt16+then-size-ne0}

-- a turn: two digits, and the byte that is stored
module _ (s : List ℕ) (i worst x y : ℕ) (h : i + 1 < length s) (ex : x ≡ digit_value (get_or s i 0)) (ey : y ≡ digit_value (get_or s (i + 1) 0))
    (p : Passed s i worst) where
  first : Passed s (i + 1) (bit_or worst x)
  first = passed s i worst x (omega arith) ex p

  both : Passed s (i + 2) (bit_or (bit_or worst x) y)
  both = let e : i + 1 + 1 ≡ i + 2 = omega arith in rw e at (passed s (i + 1) (bit_or worst x) y h ey first)

  stored : (bytes : List ℕ) (n : ℕ) → all_digits s ≡ true
      → sets (set bytes n (x % 16 * 16 + y % 16)) (n + 1) (bytes_in (drop (i + 2) s)) ≡ sets bytes n (bytes_in (drop i s))
  unfolding bytes_in
  stored bytes n t =
      let hx = small s i worst x (omega arith) ex p t in
      let hy = small s (i + 1) (bit_or worst x) y h ey first t in
      let b : x % 16 * 16 + y % 16 ≡ x * 16 + y = omega arith in
      sym (ap (λ (l : List ℕ). sets bytes n (bytes_in l)) (next_pair s i h) ∙ rw (add-one n, b, ex, ey, ← pair-value (get_or s i 0) (get_or s (i + 1) 0)))

counted : (s : List ℕ) (i n : ℕ) → i + 1 < length s → n + length (bytes_in (drop i s)) ≡ n + 1 + length (bytes_in (drop (i + 2) s))
unfolding bytes_in
counted s i n h = ap (λ (l : List ℕ). n + length (bytes_in l)) (next_pair s i h) ∙ omega (arith, add-one (length (bytes_in (drop (i + 2) s))))

-- the ends
over-zero-bytes : (bs : List ℕ) → length bs ≤ 8 → sets (replicate 8 0) 0 bs ≡ bs ++ replicate (8 - length bs) 0
over-zero-bytes bs h = put_sets 0 bs (replicate 8 0) (omega arith) ∙ put_first bs (replicate 8 0) ∙ over_zeros 8 bs

no_more : (s : List ℕ) (i : ℕ) → length s ≤ i → bytes_in (drop i s) ≡ []
unfolding bytes_in
no_more s i h = rw (drop_of_length-le s {i = i} h)

module _ (s : List ℕ) where
  too_long : 16 < length s → None ≡ read_of s
  unfolding read_of
  too_long h = rw (lt-leb (length s) 16 h)

  module _ (h : length s ≤ 16) where
    is_odd : (bit_and (length s) 1 ≡ 0 → ⊥) → None ≡ read_of s
    unfolding read_of
    is_odd f = simp (le-leb (length s) 16 h, ne_eqb (length s % 2) 0 (λ e. f (and_mask (length s) 1 ∙ e)))

    module _ (even : length s % 2 ≡ 0) where
      no-digits : all_digits s ≡ false → None ≡ read_of s
      unfolding read_of
      no-digits f = simp (le-leb (length s) 16 h, eq-eqb (length s % 2) 0 even, f)

      whole : (bytes : List ℕ) (n i : ℕ) → length s ≤ i → all_digits s ≡ true → sets bytes n (bytes_in (drop i s)) ≡ sets (replicate 8 0) 0 (bytes_in s)
          → n + length (bytes_in (drop i s)) ≡ length (bytes_in s) → Some (record { len = n; bytes = bytes }) ≡ read_of s
      unfolding read_of
      whole bytes n i k t st ct =
          let none = no_more s i k in
          let b : bytes ≡ bytes_in s ++ replicate (8 - length (bytes_in s)) 0 = (rw none at st) ∙ over-zero-bytes (bytes_in s) (half 8 s (omega arith)) in
          let m : n ≡ length (bytes_in s) = omega (arith, rw none at ct) in
          simp (le-leb (length s) 16 h, eq-eqb (length s % 2) 0 even, t, b, m)

-- behind the two tests of the length
even : (s : List ℕ) → bit_and (length s) 1 ≡ 0 → length s % 2 ≡ 0
even s e = sym (and_mask (length s) 1) ∙ e

pub returns-then-size-gt16 : goal.returns-then-size-gt16
returns-then-size-gt16 c = record {
  value = elim c.then-size-gt16.branch [
    | then-size-gt16-via-then-size-gt16 w ↦ too_long _ w.if-size-gt16.true
    | then-size-gt16-via-else-size-gt16+then-size-ne0 w ↦ is_odd _ w.if-size-gt16.false w.if-size-ne0.true
  ];
  read_back = bytes-read-back;
  printed_again = bytes-again;
}

pub loop-i-preserved : goal.loop-i-preserved
loop-i-preserved c =
    let s = c.args.text.now in
    let l = c.loop-i in
    let v = even s c.if-size-ne0.false in
    let h : l.i + 1 < length s = omega arith in
    let x = c.value_of-high.result in
    let y = c.value_of-low.result in
    let ex = c.value_of-high.ensures in
    let ey = c.value_of-low.ensures in (
      omega arith,
      omega arith,
      both s l.i l.worst x y h ex ey l.invariant.2,
      λ t. rw c.byte_of.ensures (stored s l.i l.worst x y h ex ey l.invariant.2 l.bytes l.n t) ∙ l.invariant.3 t,
      sym (counted s l.i l.n h) ∙ l.invariant.4,
    )

pub returns-then-worst-gt15 : goal.returns-then-worst-gt15
returns-then-worst-gt15 c =
    let s = c.args.text.now in
    let l = c.loop-i in
    let f = one-bad s l.i l.worst l.invariant.2 c.if-worst-gt15.true in
    record {
      value = no-digits s c.if-size-gt16.false (even s c.if-size-ne0.false) f;
      read_back = bytes-read-back;
      printed_again = bytes-again;
    }

pub returns : goal.returns
returns c =
    let s = c.args.text.now in
    let l = c.loop-i in
    let t = all-good s l.i l.worst l.invariant.2 (omega arith) (omega arith) in
    let w = whole s c.if-size-gt16.false (even s c.if-size-ne0.false) l.bytes l.n l.i (omega arith) t in
    record { value = w (l.invariant.3 t) l.invariant.4; read_back = bytes-read-back; printed_again = bytes-again }
