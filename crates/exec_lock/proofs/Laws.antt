-- Laws of a zero ID, and of the lock memory after a test-and-set.
-- Assumes nothing.
use Rattle.std.proofs.Common.{ℕ, ◌≡◌, List, [], ◌∷◌, length, eqb, refl, ap, ◌&&◌}
use borrow.Author.Tests.{eq-eqb, ne_eqb}
use lib.ListN.{replicate}
use lib.Pointwise.{pointwise}
use Rattle.exec_lock.specs.Lock.{all_zero, lock_after, test_and_set}

pub zero-all : (a : List ℕ) → pointwise eqb a (replicate (length a) 0) ≡ all_zero a
unfolding all_zero
zero-all [] = refl
zero-all (b ∷ more) = ap (λ r. eqb b 0 && r) (zero-all more)

module _ (held id : List ℕ) where
  pub other_length : (length id ≡ 6 → ⊥) → held ≡ test_and_set held id
  unfolding test_and_set
  other_length n = rw (ne_eqb (length id) 6 n)

  pub six-sent : length id ≡ 6 → lock_after held id ≡ test_and_set held id
  unfolding test_and_set
  six-sent e = rw (eq-eqb (length id) 6 e)
