-- Laws of the registers in their bytes.
-- Assumes nothing.
use Prim.Native.Nat.{ℕ}
use mathlib.Core.Path.{◌≡◌, sym, ap, ap₂, ◌∙◌}
use mathlib.Core.List.{List, ◌++◌}
use native.Mathlib.Omega.{arith}
use lib.ListN.{length, take, drop, take-append-drop, drop_of_length-le}
use Rattle.buffer.specs.Buffer.{put_at}
use Rattle.buffer.proofs.Laws.{take_put}
use Rattle.exec_registers.specs.Registers.{Registers, registers_in, with_lock, BytesTold}

-- a lock memory that was put is the one that is there
pub lock-put : (lock bytes : List ℕ) → length lock ≡ 6 → registers_in (put_at 0 lock bytes) ≡ with_lock lock (registers_in bytes)
unfolding registers_in
lock-put lock bytes e = let put : take 6 (put_at 0 lock bytes) ≡ lock = rw e at (take_put 0 lock bytes (omega arith)) in rw put

-- ---- the whole block, field after field

parts : (n : ℕ) (a b : List ℕ) → take n a ≡ take n b → drop n a ≡ drop n b → a ≡ b
parts n a b p q = sym (take-append-drop n a) ∙ ap₂ ◌++◌ p q ∙ take-append-drop n b

no_more : (n : ℕ) (a b : List ℕ) → length a ≡ n → length b ≡ n → drop n a ≡ drop n b
no_more n a b h k = drop_of_length-le a {i = n} (omega (arith, h)) ∙ sym (drop_of_length-le b {i = n} (omega (arith, k)))

pub bytes-told : BytesTold
unfolding registers_in
bytes-told a b h k e = parts 6 a b (ap (λ (r : Registers). r.lock) e) (no_more 6 a b h k)
