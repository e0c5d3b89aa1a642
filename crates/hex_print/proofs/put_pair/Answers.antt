-- `put_pair` meets its contract: the two digits of a byte, taken apart.
-- Assumes nothing.
use Prim.Native.Nat.{ℕ, ◌+◌, ◌*◌, ◌/◌, ◌%◌, ◌<◌}
use mathlib.Core.Path.{◌≡◌, ◌∙◌}
use native.Mathlib.Omega.{arith}
use lib.Bits.{bit_and, and_mask}
use mir.Val.{Fits}
use mir.Syntax.{w8}
use Rattle.hex_digit.specs.Digit.{digit_of}
use Rattle.hex_digit.proofs.DigitLaws.{digit_sum}
use Rattle.hex_print.proofs.PutLaws.{put_two}
use Rattle.hex_print.proofs.put_pair.Goals as goal

module _ (b pair : ℕ) (h : b < 256) (e : pair ≡ digit_of (b / 16) + digit_of (b % 16) * 256) where
  pub upper : bit_and pair 255 ≡ digit_of (b / 16)
  upper = let s = digit_sum (b / 16) (omega arith) in and_mask pair 8 ∙ omega arith

  pub lower : pair / 256 ≡ digit_of (b % 16)
  lower = let s = digit_sum (b / 16) (omega arith) in omega arith

  pub upper_fits : Fits w8 (bit_and pair 255)
  upper_fits = omega (arith, and_mask pair 8)

  pub lower-fits : Fits w8 (pair / 256)
  lower-fits = let s = digit_sum (b % 16) (omega arith) in omega (arith, lower)

pub overflow_cast-out-2 : goal.overflow_cast-out-2
overflow_cast-out-2 c = lower-fits _ _ (omega arith) c.digits_of-pair.ensures

pub returns : goal.returns
returns c =
    let a = c.args in
    let h : a.b < 256 = omega arith in
    rw (upper _ _ h c.digits_of-pair.ensures, lower _ _ h c.digits_of-pair.ensures) (put_two a.out.now a.at a.b h (omega arith))
