-- Document 01, "The demonstration board": "eight header digits, `N`, 0–16 data digits in pairs, .. digits 0–9 and A–F".
-- The digits of a number and of bytes, and the number that digits stand for.
use Rattle.std.specs.Prelude.{ℕ, zero, suc, ◌+◌, ◌*◌, ◌/◌, ◌%◌, ◌^◌, ◌≡◌, Bool, true, ◌&&◌, List, [], ◌∷◌, ◌++◌, leb, length}
use Rattle.hex_digit.specs.Digit.{digit_value, digit_of}

-- The last n hexadecimal digits of a number, most significant first: at the place that is worth 16 ^ n stands the last
-- digit of x / 16 ^ n.
unfoldable pub hex_digits : ℕ → ℕ → List ℕ
hex_digits zero x = []
hex_digits (suc n) x = digit_of (x / 16 ^ n % 16) ∷ hex_digits n x

-- Bytes as text: two digits to a byte.
unfoldable pub digits_of : List ℕ → List ℕ
digits_of [] = []
digits_of (b ∷ more) = hex_digits 2 b ++ digits_of more

-- "digits 0–9 and A–F": whether a text has nothing else.
unfoldable pub all_digits : List ℕ → Bool
all_digits [] = true
all_digits (c ∷ more) = leb (digit_value c) 15 && all_digits more

-- The number that digits stand for: the sum of their values, each times 16 for every digit behind it.
unfoldable pub number_in : List ℕ → ℕ
number_in [] = 0
number_in (c ∷ more) = digit_value c * 16 ^ length more + number_in more

-- ---- C-13: "its eight printed digits are its hex digits"

-- A text is a number in n hexadecimal digits: that many of them, whose values at their places sum up to it.
pub record InDigits (n x : ℕ) (text : List ℕ) : Type 0 where
  pub count : length text ≡ n
  pub digits : all_digits text ≡ true
  pub sum : number_in text ≡ x

-- What is printed for a number is the number in n digits, and no other text is.
pub record PlaceValue (n x : ℕ) : Type 0 where
  pub printed : InDigits n x (hex_digits n x)
  pub alone : (text : List ℕ) → InDigits n x text → text ≡ hex_digits n x
