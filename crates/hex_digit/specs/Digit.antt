-- Document 01, "The demonstration board": "digits 0–9 and A–F". What one digit stands for.
use Rattle.std.specs.Prelude.{ℕ, ◌+◌, ◌-◌, cond, ◌&&◌, nat_le, nat_lt}

-- "digits 0–9 and A–F": the value of a digit, and 16 for any other byte.
unfoldable pub digit_value : ℕ → ℕ
digit_value c = cond (nat_le 48 c && nat_le c 57) (c - 48) (cond (nat_le 65 c && nat_le c 70) (c - 65 + 10) 16)

-- The digit of a value below 16.
unfoldable pub digit_of : ℕ → ℕ
digit_of v = cond (nat_lt v 10) (48 + v) (65 + (v - 10))
