-- Laws of one digit: its value by range, a digit as a sum, the value of the digit of a value, and the digit of the value of a digit.
-- Assumes nothing.
use Rattle.std.proofs.Common.{◌≡◌, ℕ, ◌+◌, ◌-◌, ◌*◌, ◌/◌, ◌%◌, ◌^◌, ◌<◌, ◌≤◌, true, false, ◌&&◌, ltb, leb, sym, ap, ◌∙◌, arith, ltb-false, ltb-true, le-leb, leb-true}
use lib.Bits.{bit_and, and_block, and_high}
use borrow.Author.Tests.{lt-leb}
use Rattle.buffer.proofs.Choice.{and_left, and_right, by-test}
use Rattle.hex_digit.specs.Digit.{digit_value, digit_of}

module _ (low high c : ℕ) where
  inside : low ≤ c → c ≤ high → (leb low c && leb c high) ≡ true
  inside h k = simp (le-leb low c h, le-leb c high k)

  outside : (low ≤ c → high < c) → (leb low c && leb c high) ≡ false
  outside h = by-test (leb low c) (λ e. rw e (lt-leb c high (h (leb-true low c e)))) (λ e. rw e)

pub is-decimal : (c : ℕ) → 48 ≤ c → c ≤ 57 → c - 48 ≡ digit_value c
unfolding digit_value
is-decimal c h k = rw (inside 48 57 c h k)

pub is-letter : (c : ℕ) → 65 ≤ c → c ≤ 70 → c - 65 + 10 ≡ digit_value c
unfolding digit_value
is-letter c h k = simp (outside 48 57 c (λ _. omega arith), inside 65 70 c h k)

no_digit : (c : ℕ) → (leb 48 c && leb c 57) ≡ false → (leb 65 c && leb c 70) ≡ false → 16 ≡ digit_value c
unfolding digit_value
no_digit c e f = rw (e, f)

pub is-other : (c : ℕ) → (48 ≤ c → 57 < c) → (65 ≤ c → 70 < c) → 16 ≡ digit_value c
is-other c h k = no_digit c (outside 48 57 c h) (outside 65 70 c k)

module _ (v : ℕ) (h : v < 16) where
  -- a digit as a sum: the letters stand 7 further on
  pub digit_sum : digit_of v ≡ v + 48 + (v + 6) / 16 * 7
  unfolding digit_of
  digit_sum =
      by-test (ltb v 10)
      (λ e. let k = ltb-true v 10 e in rw e (omega arith))
      (λ e. let k = ltb-false v 10 e in rw e (omega arith))

  pub value : digit_value (digit_of v) ≡ v
  value =
      by-test (ltb v 10)
      (λ e. let k = ltb-true v 10 e in let s = digit_sum in sym (is-decimal (digit_of v) (omega arith) (omega arith)) ∙ omega arith)
      (λ e. let k = ltb-false v 10 e in let s = digit_sum in sym (is-letter (digit_of v) (omega arith) (omega arith)) ∙ omega arith)

  pub digit_small : leb (digit_value (digit_of v)) 15 ≡ true
  digit_small = let e = value in le-leb (digit_value (digit_of v)) 15 (omega arith)

-- a byte that has a value is that value's digit
pub digit_back : (c : ℕ) → digit_value c ≤ 15 → digit_of (digit_value c) ≡ c
digit_back c h =
    let s = digit_sum (digit_value c) (omega arith) in
    by-test (leb 48 c && leb c 57)
    (λ e. let l = leb-true 48 c (and_left (leb 48 c) (leb c 57) e) in let u = leb-true c 57 (and_right (leb 48 c) (leb c 57) e) in let v = is-decimal c l u in omega arith)
    (λ e. by-test (leb 65 c && leb c 70)
    (λ f. let l = leb-true 65 c (and_left (leb 65 c) (leb c 70) f) in let u = leb-true c 70 (and_right (leb 65 c) (leb c 70) f) in let v = is-letter c l u in omega arith)
    (λ f. let v = no_digit c e f in absurd (omega arith)))

-- the bit for 16 of a number below 32
bit_of_16 : (n : ℕ) → n < 32 → bit_and n 16 ≡ n / 16 * 16
bit_of_16 n h = and_high n 1 4 ∙ omega arith

-- both digits of a byte at once: which of them are letters
pub letters : (b x : ℕ) → b < 256 → x ≡ b / 16 + b % 16 * 256 → bit_and (x + 0x0606) 0x1010 ≡ (b / 16 + 6) / 16 * 16 + (b % 16 + 6) / 16 * 4096
letters b x h e =
    let p : ℕ = b % 16 + 6 in
    let w : ℕ = b / 16 + 6 in
    let y : x + 0x0606 ≡ p * 2 ^ 8 + w = omega arith in
    ap (λ (n : ℕ). bit_and n 0x1010) y ∙ and_block 8 p 16 w 16 (omega arith) (omega arith) ∙ omega (arith, bit_of_16 p (omega arith), bit_of_16 w (omega arith))
