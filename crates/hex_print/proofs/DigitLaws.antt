-- Laws of the digits of bytes and of a number: how many they are, bytes one behind the other, and that a number's are those of its four bytes.
-- Assumes nothing.
use Prim.Native.Nat.{ℕ, zero, suc, ◌*◌, ◌/◌, ◌%◌, ◌^◌, ◌<◌}
use mathlib.Core.Path.{◌≡◌, refl, ap}
use mathlib.Core.List.{List, [], ◌∷◌, ◌++◌}
use native.Mathlib.Omega.{arith}
use lib.ListN.{length}
use Rattle.buffer.specs.BigEndian.{bytes_of}
use Rattle.hex_digit.specs.Digit.{digit_of}
use Rattle.hex_print.specs.Digits.{digits_of, hex_digits}

pub length_digits : (bs : List ℕ) → length (digits_of bs) ≡ length bs * 2
unfolding digits_of hex_digits
length_digits [] = refl
length_digits (b ∷ bs) = let e = length_digits bs in omega arith

pub length-hex : (n x : ℕ) → length (hex_digits n x) ≡ n
unfolding hex_digits
length-hex zero x = refl
length-hex (suc n) x = ap suc (length-hex n x)

pub digits_append : (bs cs : List ℕ) → digits_of (bs ++ cs) ≡ digits_of bs ++ digits_of cs
unfolding digits_of hex_digits
digits_append [] cs = refl
digits_append (b ∷ bs) cs = rw (digits_append bs cs)

-- the two digits of a byte
pub two_digits : (b : ℕ) → b < 256 → digit_of (b / 16) ∷ digit_of (b % 16) ∷ [] ≡ hex_digits 2 b
unfolding hex_digits
two_digits b h =
    let u : b / 16 ^ 1 % 16 ≡ b / 16 = omega arith in
    let l : b / 16 ^ 0 % 16 ≡ b % 16 = omega arith in
    rw (u, l)

-- a number's digits are those of its four bytes
pub four_bytes : (x : ℕ) → digits_of (bytes_of x) ≡ hex_digits 8 x
unfolding digits_of hex_digits
four_bytes x =
    let a : x / 0x1000000 / 16 % 16 ≡ x / 16 ^ 7 % 16 = omega arith in
    let b : x / 0x1000000 / 1 % 16 ≡ x / 16 ^ 6 % 16 = omega arith in
    let c : x / 0x10000 % 256 / 16 % 16 ≡ x / 16 ^ 5 % 16 = omega arith in
    let d : x / 0x10000 % 256 / 1 % 16 ≡ x / 16 ^ 4 % 16 = omega arith in
    let e : x / 256 % 256 / 16 % 16 ≡ x / 16 ^ 3 % 16 = omega arith in
    let f : x / 256 % 256 / 1 % 16 ≡ x / 16 ^ 2 % 16 = omega arith in
    let g : x % 256 / 16 % 16 ≡ x / 16 ^ 1 % 16 = omega arith in
    let h : x % 256 / 1 % 16 ≡ x / 16 ^ 0 % 16 = omega arith in
    rw (a, b, c, d, e, f, g, h)
