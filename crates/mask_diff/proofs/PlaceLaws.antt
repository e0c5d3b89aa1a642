-- The first and the last byte that differ, one place after another.
-- Assumes nothing.
use Prim.Native.Nat.{ℕ, zero, suc, ◌+◌, ◌-◌, ◌≤◌, ◌<◌}
use mathlib.Core.Path.{◌≡◌, refl, sym, ap, ◌∙◌}
use mathlib.Core.Bool.{Bool, true, false, not, cond, ◌||◌}
use mathlib.Core.List.{List, [], ◌∷◌}
use native.Mathlib.Omega.{arith}
use lib.Dec.{eqb, ltb}
use lib.ListN.{length, drop, get_or}
use lib.Seq.{drop-cons}
use native.Mathlib.Numerals.{add-one}
use borrow.Author.Tests.{eq-eqb, ne_eqb, eqb-true, eqb-false, ltb-true, ltb-false, lt-ltb, le-ltb}
use Rattle.std.specs.Prelude.{Some, None}
use Rattle.std.proofs.lemmas.List.{get_or_past}
use Rattle.buffer.proofs.Choice.{by-test}
use Rattle.cmd_fields.specs.Commands.{Pair}
use Rattle.mask_combine.specs.Combining.{untouched}
use Rattle.mask_diff_spec.specs.Differences.{change_of, difference, touches, before_first, up_to_last, start_from}
use Rattle.mask_diff_spec.proofs.ByteLaws.{same_byte, other_byte}
use Rattle.mask_diff_spec.proofs.DifferenceLaws.{difference-length, difference-at}
use Rattle.mask_diff.specs.Changes.{first_from}

-- whether an old byte and a new one differ
abbrev pub differ : ℕ × ℕ → Bool
differ p = not (eqb p.0 p.1)

touches-differ : (o n : ℕ) → touches (change_of o n) ≡ differ (o, n)
touches-differ o n =
    by-test (eqb o n) (λ t. same_byte o n (eqb-true o n t) ∙ sym (ap not t)) (λ f. other_byte o n (eqb-false o n f) ∙ sym (ap not f))

-- ---- the last

is-last : (e : List Pair) (k : ℕ) → k ≤ length e → ((i : ℕ) → k ≤ i → touches (get_or e i untouched) ≡ false) →
    ((j : ℕ) → suc j ≡ k → touches (get_or e j untouched) ≡ true) → up_to_last e ≡ k
unfolding up_to_last
is-last [] k h none some = omega arith
is-last (p ∷ e) zero h none some = rw (none 0 (omega arith), is-last e 0 (omega arith) (λ i l. none (suc i) (omega arith)) (λ j q. absurd (omega arith)))
is-last (p ∷ e) (suc zero) h none some = rw (some 0 refl, is-last e 0 (omega arith) (λ i l. none (suc i) (omega arith)) (λ j q. absurd (omega arith)))
is-last (p ∷ e) (suc (suc k)) h none some =
    rw (is-last e (suc k) (omega arith) (λ i l. none (suc i) (omega arith)) (λ j q. some (suc j) (ap suc q))) (go (touches p))
  where
    go : (t : Bool) → cond (t || ltb 0 (suc k)) (suc (suc k)) 0 ≡ suc (suc k)
    go true = refl
    go false = rw (lt-ltb 0 (suc k) (omega arith))

module _ (old new : List ℕ) (size : length old ≡ length new) where
  pair-at : (i : ℕ) → i < length old → touches (get_or (difference old new) i untouched) ≡ differ (get_or old i 0, get_or new i 0)
  pair-at i h = ap touches (difference-at old new i size h) ∙ touches-differ (get_or old i 0) (get_or new i 0)

  pub same-at : (i : ℕ) → i < length old → get_or old i 0 ≡ get_or new i 0 → touches (get_or (difference old new) i untouched) ≡ false
  same-at i h e = pair-at i h ∙ ap not (eq-eqb (get_or old i 0) (get_or new i 0) e)

  pub other-at : (i : ℕ) → i < length old → (get_or old i 0 ≡ get_or new i 0 → ⊥) → touches (get_or (difference old new) i untouched) ≡ true
  other-at i h f = pair-at i h ∙ ap not (ne_eqb (get_or old i 0) (get_or new i 0) f)

  pub none-past : (i : ℕ) → length old ≤ i → touches (get_or (difference old new) i untouched) ≡ false
  none-past i h = let n = difference-length old new size in ap touches (get_or_past (difference old new) i untouched (omega arith))

  -- one place more from the end
  pub none-from : (k : ℕ) → 0 < k → k ≤ length old → get_or old (k - 1) 0 ≡ get_or new (k - 1) 0 →
      ((i : ℕ) → k ≤ i → touches (get_or (difference old new) i untouched) ≡ false) →
      (i : ℕ) → k - 1 ≤ i → touches (get_or (difference old new) i untouched) ≡ false
  none-from k z h e none i l =
      by-test (ltb i k)
      (λ t. let b = ltb-true i k t in let at : k - 1 ≡ i = omega arith in rw at at (same-at (k - 1) (omega arith) e))
      (λ f. none i (ltb-false i k f))

  pub last-at : (k : ℕ) → 0 < k → k ≤ length old → (get_or old (k - 1) 0 ≡ get_or new (k - 1) 0 → ⊥) →
      ((i : ℕ) → k ≤ i → touches (get_or (difference old new) i untouched) ≡ false) → k - 1 + 1 ≡ up_to_last (difference old new)
  last-at k z h e none =
      let n = difference-length old new size in
      let one : k - 1 + 1 ≡ k = omega arith in
      one ∙ sym (is-last (difference old new) k (omega arith) none (λ j q. let at : k - 1 ≡ j = omega arith in rw at at (other-at (k - 1) (omega arith) e)))

  pub none-last : (k : ℕ) → k ≡ 0 → ((i : ℕ) → k ≤ i → touches (get_or (difference old new) i untouched) ≡ false) → 0 ≡ up_to_last (difference old new)
  none-last k z none = sym (is-last (difference old new) 0 (omega arith) (λ i l. none i (omega arith)) (λ j q. absurd (omega arith)))

-- ---- the first

module _ (old new : List ℕ) (size : length old ≡ length new) where
  abbrev e : List Pair
  e = difference old new

  here : (i : ℕ) → i < length old → drop i e ≡ get_or e i untouched ∷ drop (i + 1) e
  here i h = let n = difference-length old new size in drop-cons e i untouched (omega arith) ∙ rw (← add-one i)

  found-here : (i : ℕ) → i < length old → (get_or old i 0 ≡ get_or new i 0 → ⊥) → start_from i e ≡ i
  unfolding before_first
  found-here i h f = rw (here i h, other-at old new size i h f) (omega arith)

  -- one place more
  pub found-later : (i : ℕ) → i < length old → get_or old i 0 ≡ get_or new i 0 → start_from i e ≡ start_from (i + 1) e
  unfolding before_first
  found-later i h s = rw (here i h, same-at old new size i h s) (omega arith)

  module _ (from i : ℕ) (q : start_from from e ≡ start_from i e) where
    pub first-some : i < length old → (get_or old i 0 ≡ get_or new i 0 → ⊥) → Some i ≡ first_from from e
    first-some h f =
        let n = difference-length old new size in
        let s : start_from from e ≡ i = q ∙ found-here i h f in
        rw (s, lt-ltb i (length e) (omega arith)) refl

    pub first-none : length old ≤ i → None ≡ first_from from e
    first-none h =
        let n = difference-length old new size in
        rw (le-ltb (start_from from e) (length e) (omega (arith, q))) refl
