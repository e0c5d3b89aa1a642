-- The pair that takes a byte to another.
-- Assumes nothing.
use Prim.Native.Nat.{ℕ, zero, suc, ◌-◌, ◌≤◌, ◌<◌, min}
use mathlib.Core.Path.{◌≡◌, refl, sym, ap, ap₂, ◌∙◌}
use mathlib.Core.Bool.{true, false}
use native.Mathlib.Omega.{arith}
use lib.Bits.{bit_and, bit_xor, differ, and_le_l, and_le_r, xor_lt, xor_self, xor_add_and}
use borrow.Author.Tests.{ne_eqb}
use Rattle.cmd_fields.specs.Commands.{Pair}
use Rattle.exec_store.specs.Storing.{mask_byte}
use Rattle.mask_combine.specs.Combining.{Proper}
use Rattle.mask_combine.proofs.Bits.{bit_at, bit_small, bit_zero, bit_and_lem, bit_xor_lem, bit_not}
use Rattle.mask_combine.proofs.PairLaws.{byte_ext, chosen, mask-bit, mask-small, by_bits}
use Rattle.mask_diff_spec.specs.Differences.{change_of, touches}

xor_small : (o n : ℕ) → o < 256 → n < 256 → bit_xor o n < 256
xor_small = xor_lt 8

-- it does
pub change-does : (o n : ℕ) → o < 256 → n < 256 → mask_byte o (change_of o n) ≡ n
change-does o n p q =
    let x = xor_small o n p q in
    byte_ext (mask_byte o (change_of o n)) n (mask-small o (change_of o n) x) q
    (λ k h. mask-bit k o (change_of o n) h x
    ∙ ap₂ (λ (m v : ℕ). chosen m v (bit_at k o)) (bit_xor_lem k o n) (bit_and_lem k n (bit_xor o n) ∙ ap (min (bit_at k n)) (bit_xor_lem k o n))
    ∙ go (bit_at k o) (bit_at k n) (bit_small k o) (bit_small k n))
  where
    go : (o n : ℕ) → o ≤ 1 → n ≤ 1 → chosen (differ o n) (min n (differ o n)) o ≡ n
    go zero zero a b = refl
    go zero (suc zero) a b = refl
    go (suc zero) zero a b = refl
    go (suc zero) (suc zero) a b = refl
    go zero (suc (suc n)) a b = absurd (omega arith)
    go (suc zero) (suc (suc n)) a b = absurd (omega arith)
    go (suc (suc o)) n a b = absurd (omega arith)

pub change-proper : (o n : ℕ) → o < 256 → n < 256 → Proper (change_of o n)
change-proper o n p q =
    by_bits (xor_small o n p q) (omega (arith, and_le_l n (bit_xor o n)))
    (λ k _. rw (bit_and_lem k n (bit_xor o n)) (omega arith))

-- and no pair that does it leaves a bit alone that this one touches
pub change-least : (o n : ℕ) {p : Pair} → Proper p → o < 256 → mask_byte o p ≡ n → bit_and (change_of o n).mask (255 - p.mask) ≡ 0
change-least o n {p} r a e =
    let l = and_le_r (bit_xor o n) (255 - p.mask) in
    byte_ext (bit_and (bit_xor o n) (255 - p.mask)) 0 (omega arith) (omega arith)
    (λ k h. bit_and_lem k (bit_xor o n) (255 - p.mask) ∙ ap₂ min (bit_xor_lem k o n) (bit_not 8 k p.mask h r.mask)
    ∙ go (bit_at k o) (bit_at k n) (bit_at k p.mask) (bit_at k p.value) (bit_small k o) (sym (mask-bit k o p h r.mask) ∙ ap (bit_at k) e)
    ∙ sym (bit_zero k))
  where
    go : (o n m v : ℕ) → o ≤ 1 → chosen m v o ≡ n → min (differ o n) (1 - m) ≡ 0
    go zero zero zero v b q = refl
    go zero (suc n) zero v b q = absurd (omega arith)
    go (suc o) zero zero v b q = absurd (omega arith)
    go (suc zero) (suc zero) zero v b q = refl
    go (suc zero) (suc (suc n)) zero v b q = absurd (omega arith)
    go (suc (suc o)) (suc n) zero v b q = absurd (omega arith)
    go o n (suc m) v b q = omega arith

-- ---- whether it touches a bit

xor_zero : (o n : ℕ) → bit_xor o n ≡ 0 → o ≡ n
xor_zero o n e = omega (arith, xor_add_and o n, and_le_l o n, and_le_r o n)

pub same_byte : (o n : ℕ) → o ≡ n → touches (change_of o n) ≡ false
same_byte o n e = rw (e, xor_self n)

pub other_byte : (o n : ℕ) → (o ≡ n → ⊥) → touches (change_of o n) ≡ true
other_byte o n h = rw (ne_eqb (bit_xor o n) 0 (λ e. h (xor_zero o n e)))
