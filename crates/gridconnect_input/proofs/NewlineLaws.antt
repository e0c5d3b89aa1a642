-- Laws of the search for a newline: the bytes before it from an index on.
-- Assumes nothing.
use Prim.Native.Nat.{ℕ, ◌+◌, ◌≤◌, ◌<◌}
use mathlib.Core.Path.{◌≡◌}
use mathlib.Core.List.{List}
use native.Mathlib.Numerals.{add-one}
use native.Mathlib.Omega.{arith}
use borrow.Author.Tests.{eq-eqb, ne_eqb}
use lib.ListN.{length, drop, get_or, drop_of_length-le}
use lib.Seq.{drop-cons}
use Rattle.gridconnect_input.specs.Newline.{until_newline}

module _ (s : List ℕ) (i : ℕ) where
  pub at_newline : i < length s → get_or s i 0 ≡ 10 → length (until_newline (drop i s)) ≡ 0
  unfolding until_newline
  at_newline h e = rw (drop-cons s i 0 h) (simp (eq-eqb (get_or s i 0) 10 e))

  pub passed : i < length s → (get_or s i 0 ≡ 10 → ⊥) → length (until_newline (drop i s)) ≡ 1 + length (until_newline (drop (i + 1) s))
  unfolding until_newline
  passed h ne = rw (add-one i, drop-cons s i 0 h) (simp (ne_eqb (get_or s i 0) 10 ne) (omega arith))

  pub at_end_lem : length s ≤ i → length (until_newline (drop i s)) ≡ 0
  unfolding until_newline
  at_end_lem h = rw (drop_of_length-le s {i = i} h)

-- the same with the next index by another name
pub passed_to : (s : List ℕ) (i j : ℕ) → j ≡ i + 1 → i < length s → (get_or s i 0 ≡ 10 → ⊥) → length (until_newline (drop i s)) ≡ 1 + length (until_newline (drop j s))
passed_to s i j e h ne = rw e (passed s i h ne)
