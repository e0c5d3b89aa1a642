-- Worked examples of what is read: eight digits and one more or fewer, no digits, and data digits in pairs, none, one, and one too many.
-- Assumes nothing.
use mathlib.Core.Path.{◌≡◌, refl}
use mathlib.Core.List.{[], ◌∷◌}
use Rattle.hex_digit.specs.Digit.{digit_value}
use Rattle.hex_print.specs.Digits.{all_digits, number_in}
use Rattle.hex_read.specs.Reading.{bytes_in, read_of, some_bytes, read_number}
use Rattle.std.specs.Prelude.{Some, None}

-- ---- a number: "1A22B09F", "1A22B09", "1A22B09F0", nothing, "1A22B09G"

eight : read_number (49 ∷ 65 ∷ 50 ∷ 50 ∷ 66 ∷ 48 ∷ 57 ∷ 70 ∷ []) ≡ Some 0x1A22B09F
unfolding read_number all_digits number_in digit_value
eight = refl

seven : read_number (49 ∷ 65 ∷ 50 ∷ 50 ∷ 66 ∷ 48 ∷ 57 ∷ []) ≡ None
unfolding read_number
seven = refl

nine : read_number (49 ∷ 65 ∷ 50 ∷ 50 ∷ 66 ∷ 48 ∷ 57 ∷ 70 ∷ 48 ∷ []) ≡ None
unfolding read_number
nine = refl

nothing : read_number [] ≡ None
unfolding read_number
nothing = refl

no_digit : read_number (49 ∷ 65 ∷ 50 ∷ 50 ∷ 66 ∷ 48 ∷ 57 ∷ 71 ∷ []) ≡ None
unfolding read_number all_digits digit_value
no_digit = refl

-- ---- bytes: "2A80", nothing, "2", "2A8", and 18 digits

two_bytes : read_of (50 ∷ 65 ∷ 56 ∷ 48 ∷ []) ≡ Some (some_bytes (0x2A ∷ 0x80 ∷ []))
unfolding read_of all_digits bytes_in number_in digit_value
two_bytes = refl

no_bytes : read_of [] ≡ Some (some_bytes [])
unfolding read_of all_digits bytes_in
no_bytes = refl

one-digit : read_of (50 ∷ []) ≡ None
unfolding read_of
one-digit = refl

three_digits : read_of (50 ∷ 65 ∷ 56 ∷ []) ≡ None
unfolding read_of
three_digits = refl

nine_bytes : read_of (48 ∷ 48 ∷ 48 ∷ 48 ∷ 48 ∷ 48 ∷ 48 ∷ 48 ∷ 48 ∷ 48 ∷ 48 ∷ 48 ∷ 48 ∷ 48 ∷ 48 ∷ 48 ∷ 48 ∷ 48 ∷ []) ≡ None
unfolding read_of
nine_bytes = refl
