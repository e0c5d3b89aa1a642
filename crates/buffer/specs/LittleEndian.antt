-- Numbers as bytes, least significant first, and what such bytes stand for.
use Rattle.std.specs.Prelude.{ℕ, ◌+◌, ◌*◌, ◌/◌, ◌%◌, Bool, true, false, cond, List, [], ◌∷◌, eqb, leb, length, take, drop, get_or, replicate}
use Rattle.buffer.specs.BigEndian.{number_of}

-- A number of 32 bits as four bytes.
abbrev pub least_first : ℕ → List ℕ
least_first x = x % 256 ∷ x / 256 % 256 ∷ x / 65536 % 256 ∷ x / 16777216 ∷ []

-- One of 16 bits as two.
abbrev pub two_least_first : ℕ → List ℕ
two_least_first x = x % 256 ∷ x / 256 ∷ []

-- One of 64 bits as eight.
abbrev pub eight_least_first : ℕ → List ℕ
eight_least_first x =
    x % 256 ∷ x / 256 % 256 ∷ x / 65536 % 256 ∷ x / 16777216 % 256 ∷ x / 0x100000000 % 256 ∷ x / 0x10000000000 % 256
    ∷ x / 0x1000000000000 % 256 ∷ x / 0x100000000000000 ∷ []

-- A bool is a byte 0 or 1.
abbrev pub bool_byte : Bool → ℕ
bool_byte false = 0
bool_byte true = 1

-- Bytes that hold nothing.
abbrev pub zeros : ℕ → List ℕ
zeros n = replicate n 0

-- The number that bytes stand for.
unfoldable pub number_in : List ℕ → ℕ
number_in [] = 0
number_in (b ∷ bytes) = b + 256 * number_in bytes

-- The number of n bytes from index `at` on, and the bool there.
abbrev pub number_at : ℕ → ℕ → List ℕ → ℕ
number_at at n bytes = number_in (take n (drop at bytes))

-- That of the four bytes from an index on, and 0 where they are not all there.
abbrev pub whole_number : List ℕ → ℕ → ℕ
whole_number bytes at =
    cond (leb (at + 4) (length bytes))
    (number_of (get_or bytes (at + 3) 0) (get_or bytes (at + 2) 0) (get_or bytes (at + 1) 0) (get_or bytes at 0))
    0

abbrev pub bool_at : ℕ → List ℕ → Bool
bool_at at bytes = eqb (get_or bytes at 0) 1
