-- The bits of a byte: what the bit operations do to each, and that a byte is its bits.
-- Assumes nothing.
use Prim.Native.Nat.{ℕ, zero, suc, ◌-◌, ◌/◌, ◌%◌, ◌^◌, ◌≤◌, ◌<◌, min, max}
use mathlib.Core.Path.{◌≡◌, refl, ap, ◌∙◌}
use native.Mathlib.Omega.{arith}
use lib.Arith.{digits_div, digits_mod}
use lib.Bits.{bit_and, bit_or, bit_xor, differ, and_step, or_step, xor_step}

-- The bit of a number that is worth 2 ^ k.
abbrev pub bit_at : ℕ → ℕ → ℕ
bit_at zero a = a % 2
bit_at (suc k) a = bit_at k (a / 2)

pub bit_small : (k a : ℕ) → bit_at k a ≤ 1
bit_small zero a = omega arith
bit_small (suc k) a = bit_small k (a / 2)

pub bit_zero : (k : ℕ) → bit_at k 0 ≡ 0
bit_zero zero = refl
bit_zero (suc k) = bit_zero k

-- ---- the operations

pub bit_and_lem : (k a b : ℕ) → bit_at k (bit_and a b) ≡ min (bit_at k a) (bit_at k b)
bit_and_lem zero a b = rw (and_step a b) (digits_mod (bit_and (a / 2) (b / 2)) (omega arith))
bit_and_lem (suc k) a b = rw (and_step a b, digits_div (bit_and (a / 2) (b / 2)) {m = 2} {r = min (a % 2) (b % 2)} (omega arith)) (bit_and_lem k (a / 2) (b / 2))

pub bit_or_lem : (k a b : ℕ) → bit_at k (bit_or a b) ≡ max (bit_at k a) (bit_at k b)
bit_or_lem zero a b = rw (or_step a b) (digits_mod (bit_or (a / 2) (b / 2)) (omega arith))
bit_or_lem (suc k) a b = rw (or_step a b, digits_div (bit_or (a / 2) (b / 2)) {m = 2} {r = max (a % 2) (b % 2)} (omega arith)) (bit_or_lem k (a / 2) (b / 2))

differ-small : (x y : ℕ) → x < 2 → y < 2 → differ x y < 2
differ-small zero y p q = q
differ-small (suc x) zero p q = p
differ-small (suc zero) (suc zero) p q = omega arith
differ-small (suc zero) (suc (suc y)) p q = absurd (omega arith)
differ-small (suc (suc x)) (suc y) p q = absurd (omega arith)

pub bit_xor_lem : (k a b : ℕ) → bit_at k (bit_xor a b) ≡ differ (bit_at k a) (bit_at k b)
bit_xor_lem zero a b = rw (xor_step a b) (digits_mod (bit_xor (a / 2) (b / 2)) (differ-small (a % 2) (b % 2) (omega arith) (omega arith)))
bit_xor_lem (suc k) a b =
    rw (xor_step a b, digits_div (bit_xor (a / 2) (b / 2)) {m = 2} {r = differ (a % 2) (b % 2)} (differ-small (a % 2) (b % 2) (omega arith) (omega arith))) (bit_xor_lem k (a / 2) (b / 2))

-- a number of n bits with every bit turned
pub bit_not : (n k m : ℕ) → k < n → m < 2 ^ n → bit_at k (2 ^ n - 1 - m) ≡ 1 - bit_at k m
bit_not zero k m h l = absurd (omega arith)
bit_not (suc n) zero m h l = omega arith
bit_not (suc n) (suc k) m h l =
    let e : (2 ^ suc n - 1 - m) / 2 ≡ 2 ^ n - 1 - m / 2 = omega arith in
    ap (bit_at k) e ∙ bit_not n k (m / 2) (omega arith) (omega arith)

-- ---- a number of n bits is its bits

pub bits_ext : (n a b : ℕ) → a < 2 ^ n → b < 2 ^ n → ((k : ℕ) → k < n → bit_at k a ≡ bit_at k b) → a ≡ b
bits_ext zero a b p q same = omega arith
bits_ext (suc n) a b p q same =
    let high : a / 2 ≡ b / 2 = bits_ext n (a / 2) (b / 2) (omega arith) (omega arith) (λ k h. same (suc k) (omega arith)) in
    let low : a % 2 ≡ b % 2 = same zero (omega arith) in
    omega arith
