-- Laws of the spaces of a table.
-- Assumes nothing.
use Prim.Native.Nat.{ℕ, zero, suc, ◌+◌, ◌-◌, ◌*◌, ◌/◌, ◌≤◌, ◌<◌}
use mathlib.Core.Path.{◌≡◌, refl, ap, ◌∙◌}
use mathlib.Core.List.{List, [], ◌∷◌, ◌++◌}
use native.Mathlib.Numerals.{add-one}
use native.Mathlib.Nat.{add-zero, add_assoc}
use native.Mathlib.Omega.{arith}
use lib.ListN.{length, take, drop, get_or, get_or-eq_default, get_or-append, length-append}
use Rattle.std.proofs.lemmas.List.{get_or-drop, get_or-take, get_or-append-add}
use Rattle.space_table.specs.Table.{number_at, row_at, spaces_from, spaces_in, space_at, no_space}
use Rattle.space_table.specs.declared.Space.{Space}

-- ---- a row that stands elsewhere

number-same : (s t : List ℕ) (a b : ℕ) → ((k : ℕ) → k < 4 → get_or s (a + k) 0 ≡ get_or t (b + k) 0) → number_at s a ≡ number_at t b
number-same s t a b f =
    let z : get_or s a 0 ≡ get_or t b 0 = simp add-zero at (f 0 (omega arith)) in
    rw (f 3 (omega arith), f 2 (omega arith), f 1 (omega arith), z)

row-same : (s t : List ℕ) (i j : ℕ) → ((k : ℕ) → k < 16 → get_or s (16 * i + k) 0 ≡ get_or t (16 * j + k) 0) → row_at s i ≡ row_at t j
unfolding row_at
row-same s t i j f =
    let z : get_or s (16 * i) 0 ≡ get_or t (16 * j) 0 = simp add-zero at (f 0 (omega arith)) in
    let n : (at : ℕ) → at < 13 → number_at s (16 * i + at) ≡ number_at t (16 * j + at) =
    λ at h. number-same s t (16 * i + at) (16 * j + at) (λ k below. rw (add_assoc, add_assoc) (f (at + k) (omega arith))) in
    rw (z, f 1 (omega arith), f 2 (omega arith), n 4 (omega arith), n 8 (omega arith), n 12 (omega arith))

pub row-drop : (t : List ℕ) (i : ℕ) → row_at (drop (16 * i) t) 0 ≡ row_at t i
row-drop t i = row-same (drop (16 * i) t) t 0 i (λ k h. get_or-drop (16 * i) t (0 + k) 0 ∙ ap (λ n. get_or t n 0) (omega arith))

pub row-slice : (t : List ℕ) (i n : ℕ) → n ≡ 16 → row_at (take n (drop (16 * i) t)) 0 ≡ row_at t i
row-slice t i n e = rw e (row-same (take 16 (drop (16 * i) t)) (drop (16 * i) t) 0 0 (λ k h. get_or-take 16 (drop (16 * i) t) (0 + k) 0 (omega arith)) ∙ row-drop t i)

module _ (x t : List ℕ) (e : length x ≡ 16) where
  row-first : row_at (x ++ t) 0 ≡ row_at x 0
  row-first = row-same (x ++ t) x 0 0 (λ k h. get_or-append x t 0 (0 + k) (omega arith))

  row-next : (i : ℕ) → row_at (x ++ t) (i + 1) ≡ row_at t i
  row-next i =
      row-same (x ++ t) t (i + 1) i (λ k h.
      let n : 16 * (i + 1) + k ≡ length x + (16 * i + k) = omega arith in
      rw n (get_or-append-add x t (16 * i + k) 0))

  rows-next : (i n : ℕ) → spaces_from (x ++ t) (i + 1) n ≡ spaces_from t i n
  unfolding spaces_from
  rows-next i zero = refl
  rows-next i (suc n) = rw (row-next i, rows-next (i + 1) n)

  -- the first row of a table and what is behind it
  pub spaces-next : spaces_in (x ++ t) ≡ row_at x 0 ∷ spaces_in t
  unfolding spaces_from
  spaces-next =
      let n : length (x ++ t) / 16 ≡ suc (length t / 16) = rw (length-append x t, ← add-one (length t / 16)) (omega arith) in
      rw (n, row-first, rows-next 0 (length t / 16))

-- no whole row
pub spaces-none : (t : List ℕ) → length t < 16 → spaces_in t ≡ []
unfolding spaces_from
spaces-none t h = let n : length t / 16 ≡ 0 = omega arith in rw n

-- ---- the spaces of a table by their place

pub spaces-length : (t : List ℕ) (i n : ℕ) → length (spaces_from t i n) ≡ n
unfolding spaces_from
spaces-length t i zero = refl
spaces-length t i (suc n) = ap suc (spaces-length t (i + 1) n)

-- space i of them, and what stands for one that is not among them
row_in : (t : List ℕ) (j n i : ℕ) (d : Space) → i < n → get_or (spaces_from t j n) i d ≡ row_at t (j + i)
unfolding spaces_from
row_in t j zero i d h = absurd (omega arith)
row_in t j (suc n) zero d h = let e : j ≡ j + 0 = omega arith in ap (row_at t) e
row_in t j (suc n) (suc i) d h =
    let e : j + 1 + i ≡ j + suc i = omega (arith, add-one i) in
    row_in t (j + 1) n i d (omega (arith, add-one i, add-one n)) ∙ ap (row_at t) e

pub space-in : (t : List ℕ) (i : ℕ) → i < length t / 16 → space_at t i ≡ row_at t i
space-in t i h = let e : 0 + i ≡ i = omega arith in row_in t 0 (length t / 16) i no_space h ∙ ap (row_at t) e

pub space-out : (t : List ℕ) (i : ℕ) → length t / 16 ≤ i → space_at t i ≡ no_space
space-out t i h = get_or-eq_default (spaces_from t 0 (length t / 16)) no_space (rw spaces-length h)

module _ (t : List ℕ) (i count : ℕ) where
  -- a turn of a walk over the table, and its end
  pub table_next : i < count → spaces_from t i (count - i) ≡ row_at t i ∷ spaces_from t (i + 1) (count - (i + 1))
  unfolding spaces_from
  table_next h =
      let e : count - i ≡ suc (count - (i + 1)) = omega (arith, add-one (count - (i + 1))) in
      rw e

  pub table_done : count ≤ i → spaces_from t i (count - i) ≡ []
  unfolding spaces_from
  table_done h =
      let e : count - i ≡ 0 = omega arith in
      rw e
