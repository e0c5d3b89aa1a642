-- What was printed is read back, and what was read is printed again: bytes and their digits, and a number and its eight.
-- Assumes nothing.
use Prim.Native.Nat.{ℕ, suc, ◌-◌, ◌/◌, ◌%◌, ◌^◌, ◌≤◌, ◌<◌}
use mathlib.Core.Path.{◌≡◌, refl, ap, ◌∙◌}
use mathlib.Core.Bool.{true, ◌&&◌}
use mathlib.Core.List.{List, [], ◌∷◌}
use native.Mathlib.Omega.{arith}
use lib.Dec.{leb, eqb}
use lib.ListN.{length, get_or, replicate}
use lib.Seq.{take-append_seam}
use borrow.Author.Tests.{le-leb, eq-eqb, eqb-true}
use Rattle.buffer.proofs.Choice.{and_left, and_right}
use Rattle.hex_digit.specs.Digit.{digit_value}
use Rattle.hex_digit.proofs.DigitLaws.{digit_small}
use Rattle.hex_print.specs.Digits.{digits_of, hex_digits, all_digits}
use Rattle.hex_print.proofs.DigitLaws.{length_digits, length-hex}
use Rattle.hex_print.proofs.PlaceLaws.{all-hex, number-back, again}
use Rattle.hex_read.specs.Reading.{bytes_in, paired, read_of, BytesBack, BytesAgain, read_number, NumberBack, NumberAgain}
use Rattle.hex_read.proofs.ReadLaws.{chosen}

-- ---- a number

pub number-read-back : NumberBack
unfolding read_number
number-read-back x h = simp (length-hex 8 x, all-hex 8 x, number-back 8 x h)

pub number-again : NumberAgain
unfolding read_number
number-again text x e =
    let p = chosen (eqb (length text) 8 && all_digits text) e in
    let t = p.0 in
    rw (← p.1) (again 8 text (eqb-true (length text) 8 (and_left (eqb (length text) 8) (all_digits text) t)) (and_right (eqb (length text) 8) (all_digits text) t))

-- ---- bytes

pub all_digits_lem : (bs : List ℕ) → all_digits (digits_of bs) ≡ true
unfolding all_digits digits_of hex_digits
all_digits_lem [] = refl
all_digits_lem (b ∷ bs) = simp (digit_small (b / 16 ^ 1 % 16) (omega arith), digit_small (b / 16 ^ 0 % 16) (omega arith)) (all_digits_lem bs)

pub bytes_back : (bs : List ℕ) → ((i : ℕ) → get_or bs i 0 < 256) → bytes_in (digits_of bs) ≡ bs
unfolding bytes_in digits_of hex_digits
bytes_back [] p = refl
bytes_back (b ∷ bs) p =
    ap (λ (n : ℕ). n ∷ bytes_in (digits_of bs)) (number-back 2 b (p 0)) ∙ ap (λ (l : List ℕ). b ∷ l) (bytes_back bs (λ i. p (suc i)))

pub bytes-read-back : BytesBack
unfolding read_of
bytes-read-back bs few p =
    let l = length_digits bs in
    let a : length (digits_of bs) ≤ 16 = omega arith in
    let e : length (digits_of bs) % 2 ≡ 0 = omega arith in
    simp (le-leb (length (digits_of bs)) 16 a, eq-eqb (length (digits_of bs) % 2) 0 e, all_digits_lem bs, bytes_back bs p)

pub digits-again : (text : List ℕ) → length text % 2 ≡ 0 → all_digits text ≡ true → digits_of (bytes_in text) ≡ text
unfolding digits_of bytes_in all_digits
digits-again [] e h = refl
digits-again (a ∷ []) e h = absurd (omega arith)
digits-again (a ∷ b ∷ more) e h =
    let rest = and_right (leb (digit_value a) 15) (leb (digit_value b) 15 && all_digits more) h in
    let first = and_left (leb (digit_value a) 15) (leb (digit_value b) 15 && all_digits more) h in
    let second = and_left (leb (digit_value b) 15) (all_digits more) rest in
    rw (again 2 (a ∷ b ∷ []) refl (rw (first, second)), digits-again more (omega arith) (and_right (leb (digit_value b) 15) (all_digits more) rest))

pub bytes-again : BytesAgain
unfolding read_of
bytes-again text read e =
    let p = chosen (paired text && all_digits text) e in
    let t = p.0 in
    let even = eqb-true (length text % 2) 0 (and_right (leb (length text) 16) (eqb (length text % 2) 0) (and_left (paired text) (all_digits text) t)) in
    rw (← p.1, take-append_seam (bytes_in text) (replicate (8 - length (bytes_in text)) 0)) (digits-again text even (and_right (paired text) (all_digits text) t))
