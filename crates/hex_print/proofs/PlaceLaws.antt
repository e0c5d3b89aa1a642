-- Laws of place value: the digits of a number sum up to it, and no other text does.
-- Assumes nothing.
use Prim.Native.Nat.{ℕ, zero, suc, ◌+◌, ◌*◌, ◌/◌, ◌%◌, ◌^◌, ◌≤◌, ◌<◌}
use mathlib.Core.Path.{◌≡◌, refl, sym, ap, ◌∙◌}
use mathlib.Core.Bool.{true}
use mathlib.Core.List.{List, [], ◌∷◌}
use native.Mathlib.Nat.{pow-succ', one-le-pow, mod-lt, mod-eq_of_lt, div-eq_of_lt, mul-add-div_right, mul-add-mod_self_right, mul-le-mul_right, add-zero}
use native.Mathlib.Omega.{arith}
use lib.Arith.{mod-mul}
use lib.Dec.{leb}
use lib.ListN.{length}
use borrow.Author.Tests.{leb-true}
use Rattle.buffer.proofs.Choice.{and_left, and_right}
use Rattle.hex_digit.specs.Digit.{digit_value}
use Rattle.hex_digit.proofs.DigitLaws.{value, digit_small, digit_back}
use Rattle.hex_print.specs.Digits.{hex_digits, all_digits, number_in, InDigits, PlaceValue}
use Rattle.hex_print.proofs.DigitLaws.{length-hex}

pub all-hex : (n x : ℕ) → all_digits (hex_digits n x) ≡ true
unfolding hex_digits all_digits
all-hex zero x = refl
all-hex (suc n) x = simp (digit_small (x / 16 ^ n % 16) (omega arith)) (all-hex n x)

-- ---- the sum

place : (n : ℕ) → 0 < 16 ^ n
place n = one-le-pow n 16 (omega arith)

-- one place more
upper : (n x : ℕ) → x % 16 ^ suc n ≡ x / 16 ^ n % 16 * 16 ^ n + x % 16 ^ n
upper n x = rw (pow-succ' 16 n) (mod-mul x {m = 16} {c = 16 ^ n} (omega arith) (place n))

sum : (n x : ℕ) → number_in (hex_digits n x) ≡ x % 16 ^ n
unfolding hex_digits number_in
sum zero x = omega arith
sum (suc n) x = simp (value (x / 16 ^ n % 16) (omega arith), length-hex n x, sum n x) (sym (upper n x))

pub number-back : (n x : ℕ) → x < 16 ^ n → number_in (hex_digits n x) ≡ x
number-back n x h = sum n x ∙ mod-eq_of_lt h

-- ---- no other text

below : (d m r : ℕ) → d ≤ 15 → r < m → d * m + r < 16 * m
below d m r h k = let p : d * m ≤ 15 * m = mul-le-mul_right m h in omega arith

pub bounded : (text : List ℕ) → all_digits text ≡ true → number_in text < 16 ^ length text
unfolding all_digits number_in
bounded [] h = omega arith
bounded (c ∷ more) h =
    let k = leb-true (digit_value c) 15 (and_left (leb (digit_value c) 15) (all_digits more) h) in
    rw (pow-succ' 16 (length more)) (below (digit_value c) (16 ^ length more) (number_in more) k (bounded more (and_right (leb (digit_value c) 15) (all_digits more) h)))

-- a part at a place and a rest below it are told by their sum
module _ (m : ℕ) (a : ℕ) {r : ℕ} (h : r < m) where
  part : (a * m + r) / m ≡ a
  part = mul-add-div_right {m = m} (omega arith) a r ∙ rw (div-eq_of_lt h) (add-zero a)

  rest : (a * m + r) % m ≡ r
  rest = mul-add-mod_self_right a m r ∙ mod-eq_of_lt h

pub alone : (text : List ℕ) (x : ℕ) → all_digits text ≡ true → x % 16 ^ length text ≡ number_in text → hex_digits (length text) x ≡ text
unfolding all_digits number_in hex_digits
alone [] x h e = refl
alone (c ∷ more) x h e =
    let n : ℕ = length more in
    let k = leb-true (digit_value c) 15 (and_left (leb (digit_value c) 15) (all_digits more) h) in
    let q = and_right (leb (digit_value c) 15) (all_digits more) h in
    let s : x / 16 ^ n % 16 * 16 ^ n + x % 16 ^ n ≡ digit_value c * 16 ^ n + number_in more = sym (upper n x) ∙ e in
    let l = mod-lt x (place n) in
    let b = bounded more q in
    let p : x / 16 ^ n % 16 ≡ digit_value c = sym (part (16 ^ n) (x / 16 ^ n % 16) l) ∙ ap (λ (y : ℕ). y / 16 ^ n) s ∙ part (16 ^ n) (digit_value c) b in
    let r : x % 16 ^ n ≡ number_in more = sym (rest (16 ^ n) (x / 16 ^ n % 16) l) ∙ ap (λ (y : ℕ). y % 16 ^ n) s ∙ rest (16 ^ n) (digit_value c) b in
    rw (p, digit_back c k, alone more x q r)

-- eight digits that are read and printed again are the same, and so are two
pub again : (n : ℕ) (text : List ℕ) → length text ≡ n → all_digits text ≡ true → hex_digits n (number_in text) ≡ text
again n text l h = rw (← l) (alone text (number_in text) h (mod-eq_of_lt (bounded text h)))

module _ (n x : ℕ) (h : x < 16 ^ n) where
  printed : InDigits n x (hex_digits n x)
  printed = record { count = length-hex n x; digits = all-hex n x; sum = number-back n x h }

  pub place-value : PlaceValue n x
  place-value = record { printed = printed; alone = λ text d. sym (again n text d.count d.digits) ∙ ap (hex_digits n) d.sum }
