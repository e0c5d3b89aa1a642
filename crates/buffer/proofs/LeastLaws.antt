-- A number in bytes, least significant first, is read back from them.
-- Assumes nothing.
use Prim.Native.Nat.{ℕ, ◌+◌, ◌*◌, ◌/◌, ◌%◌, ◌≤◌}
use mathlib.Core.Path.{◌≡◌, refl}
use mathlib.Core.Bool.{Bool, true, false}
use mathlib.Core.List.{List}
use native.Mathlib.Omega.{arith}
use lib.Dec.{eqb}
use lib.ListN.{length, get_or}
use borrow.Author.Tests.{le-leb}
use Rattle.buffer.specs.BigEndian.{number_of}
use Rattle.buffer.specs.LittleEndian.{least_first, two_least_first, eight_least_first, bool_byte, number_in, whole_number}

pub whole-number : (bytes : List ℕ) (at : ℕ) → at + 4 ≤ length bytes →
    whole_number bytes at ≡ number_of (get_or bytes (at + 3) 0) (get_or bytes (at + 2) 0) (get_or bytes (at + 1) 0) (get_or bytes at 0)
whole-number bytes at h = rw (le-leb _ _ h) refl

pub bool_back : (b : Bool) → eqb (bool_byte b) 1 ≡ b
bool_back true = refl
bool_back false = refl

pub two_back : (x : ℕ) → number_in (two_least_first x) ≡ x
unfolding number_in
two_back x = omega arith

pub four_back : (x : ℕ) → number_in (least_first x) ≡ x
unfolding number_in
four_back x = omega arith

-- the upper four of eight bytes are those of the number over 2 ^ 32
upper : (x : ℕ) → x / 0x10000000000 ≡ x / 0x100000000 / 256
upper x = omega arith

upper_2 : (x : ℕ) → x / 0x1000000000000 ≡ x / 0x100000000 / 65536
upper_2 x = omega arith

upper_3 : (x : ℕ) → x / 0x100000000000000 ≡ x / 0x100000000 / 16777216
upper_3 x = omega arith

lower : (x : ℕ) → x / 16777216 % 256 + 256 * (x / 0x100000000) ≡ x / 16777216
lower x = omega arith

pub eight-back : (x : ℕ) → number_in (eight_least_first x) ≡ x
unfolding number_in
eight-back x = rw (upper x, upper_2 x, upper_3 x, four_back (x / 0x100000000), lower x) (omega arith)
