-- Laws of a walk over a table that looks for a number.
-- Assumes nothing.
use Rattle.std.proofs.Common.{ℕ, ◌≡◌, ◌≤◌, ◌<◌, ◌++◌, min, List, [], ◌∷◌, length, get_or, arith}
use borrow.Author.Tests.{eq-eqb, ne_eqb}
use Rattle.buffer.proofs.Choice.{cond-true, cond-false}
use Rattle.space_table.specs.Table.{row_at, spaces_in}
use Rattle.space_table.specs.declared.Space.{Space}
use Rattle.space_table.proofs.TableLaws.{spaces-next, spaces-none}
use Rattle.space_lookup.specs.Description.{left_out, find_space, lowest_number}
use Rattle.space_lookup.specs.declared.Found.TheVariants.{Described}

-- a row of the table, and what is behind it
module _ (row t : List ℕ) (e : length row ≡ 16) where
  pub find_hit : (n : ℕ) → get_or row 0 0 ≡ n → find_space (spaces_in (row ++ t)) n ≡ Described (row_at row 0)
  unfolding find_space row_at
  find_hit n q = rw (spaces-next row t e) (cond-true _ _ _ (eq-eqb (get_or row 0 0) n q))

  pub find_miss : (n : ℕ) → (get_or row 0 0 ≡ n → ⊥) → find_space (spaces_in (row ++ t)) n ≡ find_space (spaces_in t) n
  unfolding find_space row_at
  find_miss n q = rw (spaces-next row t e) (cond-false _ _ _ (ne_eqb (get_or row 0 0) n q))

  pub lowest-next : lowest_number (spaces_in (row ++ t)) ≡ min (get_or row 0 0) (lowest_number (spaces_in t))
  unfolding lowest_number row_at
  lowest-next = rw (spaces-next row t e)

-- no row is left
module _ (t : List ℕ) (h : length t < 16) where
  pub find_none : (n : ℕ) → find_space (spaces_in t) n ≡ left_out n
  unfolding find_space
  find_none n = rw (spaces-none t h)

  pub lowest-none : lowest_number (spaces_in t) ≡ 0xFD
  unfolding lowest_number
  lowest-none = rw (spaces-none t h)

pub lowest-bound : (l : List Space) → lowest_number l ≤ 0xFD
unfolding lowest_number
lowest-bound [] = omega arith
lowest-bound (s ∷ l) = omega (arith, lowest-bound l)
