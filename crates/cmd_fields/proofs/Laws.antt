-- Laws of the fields of a datagram.
-- Assumes nothing.
use Prim.Native.Nat.{ℕ, ◌/◌, ◌≤◌}
use mathlib.Core.Path.{◌≡◌, refl}
use mathlib.Core.Bool.{Bool, true, false}
use mathlib.Core.List.{List, [], ◌∷◌}
use native.Mathlib.Omega.{arith}
use lib.Dec.{leb}
use lib.ListN.{length, drop}
use borrow.Author.Tests.{le-leb, leb-true}
use Rattle.cmd_fields.specs.Commands.{pairs_of, within, kind_of_command, form_in, head_length, rest_of}
use Rattle.cmd_fields.specs.declared.Kind.TheVariants.{Read, Write, WriteMasked}

-- ---- a number in a range, and out of it

pub not_within : (low high c : ℕ) → (low ≤ c → c ≤ high → ⊥) → within low high c ≡ false
not_within low high c f = go (leb low c) refl (leb c high) refl
  where
    go : (s : Bool) → leb low c ≡ s → (t : Bool) → leb c high ≡ t → within low high c ≡ false
    go true p true q = absurd (f (leb-true low c p) (leb-true c high q))
    go true p false q = rw (p, q)
    go false p t q = rw p

pub is_within : (low high c : ℕ) → low ≤ c → c ≤ high → within low high c ≡ true
is_within low high c p q = rw (le-leb low c p, le-leb c high q)

-- ---- the kind of a command

module _ (c : ℕ) where
  pub is_read : 0x40 ≤ c → c ≤ 0x43 → kind_of_command c ≡ Read
  unfolding kind_of_command
  is_read p q = rw (is_within 0x40 0x43 c p q)

  pub is-write : c ≤ 0x03 → kind_of_command c ≡ Write
  unfolding kind_of_command
  is-write q = rw (not_within 0x40 0x43 c (λ a b. omega arith), is_within 0x00 0x03 c (omega arith) q)

  pub is-masked : 0x08 ≤ c → c ≤ 0x0B → kind_of_command c ≡ WriteMasked
  unfolding kind_of_command
  is-masked p q = rw (not_within 0x40 0x43 c (λ a b. omega arith), not_within 0x00 0x03 c (λ a b. omega arith), is_within 0x08 0x0B c p q)

-- ---- the remaining bytes

pub rest-is : (d : List ℕ) → rest_of d ≡ drop (head_length (form_in d)) d
unfolding rest_of
rest-is d = refl

-- ---- the pairs of a masked write

pub pairs-length : (l : List ℕ) → length (pairs_of l) ≡ length l / 2
unfolding pairs_of
pairs-length [] = refl
pairs-length (m ∷ []) = refl
pairs-length (m ∷ v ∷ more) = let ih = pairs-length more in omega arith
