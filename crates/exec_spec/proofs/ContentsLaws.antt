-- Laws of contents of which a part is changed.
-- Assumes nothing.
use Prim.Native.Nat.{ℕ}
use mathlib.Core.Path.{◌≡◌, ap}
use mathlib.Core.List.{List}
use Rattle.exec_registers.specs.Registers.{Registers, with_lock}
use Rattle.exec_lock.specs.Lock.{test_and_set}
use Rattle.exec_spec.specs.Performing.{contents, lock_tested}

-- memory alone
pub stored : (r : Registers) {m m' : List ℕ} → m ≡ m' → contents m r ≡ contents m' r
stored r e = ap (λ (m : List ℕ). contents m r) e

-- the registers alone
pub registered : (m : List ℕ) {r r' : Registers} → r ≡ r' → contents m r ≡ contents m r'
registered m e = ap (contents m) e

-- a test-and-set on the lock memory that was read, with the ID that was read
pub lock-tested : (r : Registers) {left : Registers} {held locked id sent : List ℕ} → left ≡ with_lock held r → held ≡ test_and_set locked sent →
    locked ≡ r.lock → sent ≡ id → left ≡ lock_tested r id
lock-tested r p t l s = rw (← l, ← s, ← t) p
