-- Worked examples of the definitions: digits by hand, and bytes that are none.
-- Assumes nothing.
use Prim.Native.Nat.{ℕ}
use mathlib.Core.Path.{◌≡◌, refl, sym}
use mathlib.Core.Bool.{false}
use mathlib.Core.List.{List, [], ◌∷◌}
use native.Mathlib.Omega.{arith}
use Rattle.buffer.proofs.Choice.{clash}
use Rattle.hex_digit.specs.Digit.{digit_value, digit_of}
use Rattle.hex_print.specs.Digits.{hex_digits, digits_of, all_digits, number_in, InDigits}

-- "1A22B09F"
abbrev text : List ℕ
text = 49 ∷ 65 ∷ 50 ∷ 50 ∷ 66 ∷ 48 ∷ 57 ∷ 70 ∷ []

number : number_in text ≡ 0x1A22B09F
unfolding number_in digit_value
number = refl

digits : hex_digits 8 0x1A22B09F ≡ text
unfolding hex_digits digit_of
digits = refl

bytes : digits_of (0x1A ∷ 0x22 ∷ 0xB0 ∷ 0x9F ∷ []) ≡ text
unfolding digits_of hex_digits digit_of
bytes = refl

-- the least number and the greatest
zero-digits : hex_digits 8 0 ≡ 48 ∷ 48 ∷ 48 ∷ 48 ∷ 48 ∷ 48 ∷ 48 ∷ 48 ∷ []
unfolding hex_digits digit_of
zero-digits = refl

ones : hex_digits 8 0xFFFFFFFF ≡ 70 ∷ 70 ∷ 70 ∷ 70 ∷ 70 ∷ 70 ∷ 70 ∷ 70 ∷ []
unfolding hex_digits digit_of
ones = refl

-- of a longer number the last digits
last_digits : hex_digits 3 0x1A22B09F ≡ 48 ∷ 57 ∷ 70 ∷ []
unfolding hex_digits digit_of
last_digits = refl

-- "1" is not 1 in eight digits
left_out : InDigits 8 1 (49 ∷ []) → ⊥
left_out d = absurd (omega (arith, d.count))

-- "0G" is not 16 in two, though 0 and 16 sum up to it
no_digit : InDigits 2 16 (48 ∷ 71 ∷ []) → ⊥
unfolding all_digits digit_value
no_digit d = clash (sym d.digits)

-- no digits stand for nothing, and "/", ":", "@", "G" and "a" are none
none : number_in [] ≡ 0
unfolding number_in
none = refl

below_0 : all_digits (47 ∷ []) ≡ false
unfolding all_digits digit_value
below_0 = refl

above_9 : all_digits (58 ∷ []) ≡ false
unfolding all_digits digit_value
above_9 = refl

below_a : all_digits (64 ∷ []) ≡ false
unfolding all_digits digit_value
below_a = refl

above_f : all_digits (71 ∷ []) ≡ false
unfolding all_digits digit_value
above_f = refl

lower_case : all_digits (97 ∷ []) ≡ false
unfolding all_digits digit_value
lower_case = refl
