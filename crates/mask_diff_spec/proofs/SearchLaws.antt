-- The first pair that touches a bit, and the last.
-- Assumes nothing.
use Prim.Native.Nat.{ℕ, zero, suc, ◌+◌, ◌≤◌, ◌<◌}
use mathlib.Core.Path.{◌≡◌, refl}
use mathlib.Core.Bool.{Bool, true, false, cond, not, ◌||◌}
use mathlib.Core.List.{List, [], ◌∷◌}
use native.Mathlib.Omega.{arith}
use lib.Dec.{ltb, eqb}
use lib.ListN.{length, take, drop, get_or, length-take, length-drop}
use lib.Seq.{drop-cons, get_or-drop, length-take-le}
use borrow.Author.Tests.{lt-ltb, ltb-true, eqb-true}
use Rattle.buffer.specs.Buffer.{Each}
use Rattle.buffer.proofs.Choice.{clash, cond-elim}
use Rattle.cmd_fields.specs.Commands.{Pair}
use Rattle.mask_combine.specs.Combining.{untouched}
use Rattle.mask_diff_spec.specs.Differences.{touches, before_first, up_to_last, start_from, count_at, pairs_at}
use Rattle.mask_diff_spec.specs.Writes.{ImageWrite, write_at, writes_from}

pub no_bit : (p : Pair) → touches p ≡ false → p.mask ≡ 0
no_bit p t = go (eqb p.mask 0) refl t
  where
    go : (b : Bool) → eqb p.mask 0 ≡ b → not b ≡ false → p.mask ≡ 0
    go true e n = eqb-true p.mask 0 e
    go false e n = clash n

-- ---- the first

pub none_before : (l : List Pair) (i : ℕ) → i < before_first l → touches (get_or l i untouched) ≡ false
unfolding before_first
none_before [] i h = absurd (omega arith)
none_before (p ∷ l) i h = go (none_before l) (touches p) refl i h
  where
    go : ((i : ℕ) → i < before_first l → touches (get_or l i untouched) ≡ false) → (t : Bool) → touches p ≡ t → (i : ℕ) → i < cond t 0 (suc (before_first l)) → touches (get_or (p ∷ l) i untouched) ≡ false
    go more true e i h = absurd (omega arith)
    go more false e zero h = e
    go more false e (suc i) h = more i (omega arith)

pub first-touches : (l : List Pair) → before_first l < length l → touches (get_or l (before_first l) untouched) ≡ true
unfolding before_first
first-touches [] h = absurd (omega arith)
first-touches (p ∷ l) h = go (first-touches l) (touches p) refl h
  where
    go : (before_first l < length l → touches (get_or l (before_first l) untouched) ≡ true) → (t : Bool) → touches p ≡ t → cond t 0 (suc (before_first l)) < suc (length l) → touches (get_or (p ∷ l) (cond t 0 (suc (before_first l))) untouched) ≡ true
    go more true e h = e
    go more false e h = more (omega arith)

pub before-most : (l : List Pair) → before_first l ≤ length l
unfolding before_first
before-most [] = omega arith
before-most (p ∷ l) = go (before-most l) (touches p)
  where
    go : before_first l ≤ length l → (t : Bool) → cond t 0 (suc (before_first l)) ≤ suc (length l)
    go more true = omega arith
    go more false = omega arith

-- ---- the last

pub last-most : (l : List Pair) → up_to_last l ≤ length l
unfolding up_to_last
last-most [] = omega arith
last-most (p ∷ l) = go (last-most l) (touches p || ltb 0 (up_to_last l))
  where
    go : up_to_last l ≤ length l → (t : Bool) → cond t (suc (up_to_last l)) 0 ≤ suc (length l)
    go more true = omega arith
    go more false = omega arith

pub none-behind : (l : List Pair) (i : ℕ) → up_to_last l ≤ i → touches (get_or l i untouched) ≡ false
unfolding up_to_last
none-behind [] i h = refl
none-behind (p ∷ l) i h = go (touches p) refl (up_to_last l) (none-behind l) i h
  where
    go : (t : Bool) → touches p ≡ t → (u : ℕ) → ((i : ℕ) → u ≤ i → touches (get_or l i untouched) ≡ false) → (i : ℕ) → cond (t || ltb 0 u) (suc u) 0 ≤ i → touches (get_or (p ∷ l) i untouched) ≡ false
    go true e u f zero h = absurd (omega arith)
    go true e u f (suc i) h = f i (omega arith)
    go false e zero f zero h = e
    go false e zero f (suc i) h = f i (omega arith)
    go false e (suc u) f zero h = absurd (let z : suc (suc u) ≤ 0 = rw (lt-ltb 0 (suc u) (omega arith)) at h in omega arith)
    go false e (suc u) f (suc i) h = f i (let z : suc (suc u) ≤ suc i = rw (lt-ltb 0 (suc u) (omega arith)) at h in omega arith)

pub first-counts : (p : Pair) (l : List Pair) → touches p ≡ true → 1 ≤ up_to_last (p ∷ l)
unfolding up_to_last
first-counts p l t = rw t (omega arith)

-- ---- where a write starts, and how long it is

module _ (e : List Pair) where
  pub start-touches : (from : ℕ) → start_from from e < length e → touches (get_or e (start_from from e) untouched) ≡ true
  start-touches from h =
      rw (get_or-drop from e (before_first (drop from e)) untouched) at (first-touches (drop from e) (rw length-drop (omega arith)))

  pub some_pairs : (s : ℕ) → s < length e → touches (get_or e s untouched) ≡ true → 1 ≤ count_at s e
  some_pairs s h t = rw (drop-cons e s untouched h) (first-counts (get_or e s untouched) (take 31 (drop (suc s) e)) t)

  pub count_fits : (s : ℕ) → s ≤ length e → s + count_at s e ≤ length e
  count_fits s h =
      let a = last-most (take 32 (drop s e)) in
      let b = length-take 32 (drop s e) in
      let c = length-drop s e in
      omega arith

  pub pairs-length : (s : ℕ) → s ≤ length e → length (pairs_at s e) ≡ count_at s e
  pairs-length s h = length-take-le (count_at s e) (drop s e) (let k = count_fits s h in rw length-drop (omega arith))

  pub count_most : (s : ℕ) → count_at s e ≤ 32
  count_most s =
      let a = last-most (take 32 (drop s e)) in
      let b = length-take 32 (drop s e) in
      omega arith

  -- each of the writes has 1 to 32 pairs
  pub sizes : (n from : ℕ) → Each (λ (w : ImageWrite). (1 ≤ length w.pairs) × (length w.pairs ≤ 32)) (writes_from n from e)
  unfolding writes_from
  sizes zero from = tt
  sizes (suc n) from =
      cond-elim (Each (λ (w : ImageWrite). (1 ≤ length w.pairs) × (length w.pairs ≤ 32))) (ltb (start_from from e) (length e))
      {a = write_at (start_from from e) (pairs_at (start_from from e) e) ∷ writes_from n (start_from from e + length (pairs_at (start_from from e) e)) e}
      {b = []}
      (λ q.
      let l = ltb-true (start_from from e) (length e) q in
      let k = pairs-length (start_from from e) (omega arith) in
      let a = some_pairs (start_from from e) l (start-touches from l) in
      let b = count_most (start_from from e) in
      ((omega arith, omega arith), sizes n (start_from from e + length (pairs_at (start_from from e) e))))
      (λ _. tt)
