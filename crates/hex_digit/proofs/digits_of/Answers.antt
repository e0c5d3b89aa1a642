-- `digits_of` meets its contract: both digits as sums.
-- Assumes nothing.
use Rattle.std.proofs.Common.{◌≡◌, ℕ, ◌+◌, ◌-◌, ◌*◌, ◌/◌, ◌%◌, ◌<◌, arith}
use lib.Bits.{bit_and, and_mask}
use Rattle.hex_digit.proofs.DigitLaws.{digit_sum, letters}
use Rattle.hex_digit.proofs.digits_of.Goals as goal

-- the values of the two digits, and the bit for 16 where one is a letter, as the code has them
abbrev values_of : ℕ → ℕ
values_of b = b / 16 + bit_and b 15 * 256 % 4294967296

abbrev letters_of : ℕ → ℕ
letters_of b = bit_and (values_of b + 0x0606) 0x1010

module _ (b : ℕ) (h : b < 256) where
  low : bit_and b 15 ≡ b % 16
  low = and_mask b 4

  values : values_of b ≡ b / 16 + b % 16 * 256
  values = omega (arith, low)

  which : letters_of b ≡ (b / 16 + 6) / 16 * 16 + (b % 16 + 6) / 16 * 4096
  which = letters b (values_of b) h values

-- 8 less 1 for each letter
seven : (letters p q : ℕ) → letters ≡ p * 16 + q * 4096 → p < 2 → q < 2 → letters / 2 - letters / 16 ≡ p * 7 + q * 1792
seven letters p q e h k = omega arith

pub returns : goal.returns
returns c =
    let b = c.args.b in
    let h : b < 256 = omega arith in
    let further = seven (letters_of b) ((b / 16 + 6) / 16) ((b % 16 + 6) / 16) (which b h) (omega arith) (omega arith) in
    rw (c.from.ensures, c.from-2.ensures) (omega (arith, values b h, digit_sum (b / 16) (omega arith), digit_sum (b % 16) (omega arith)))
