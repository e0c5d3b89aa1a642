-- The masked writes that are found one behind the other do what the pairs do.
-- Assumes nothing.
use Prim.Native.Nat.{ℕ, zero, suc, ◌+◌, ◌-◌, ◌≤◌, ◌<◌}
use mathlib.Core.Path.{◌≡◌, refl, sym, ap, ap₂, ◌∙◌}
use mathlib.Core.Bool.{Bool, true, false, cond}
use mathlib.Core.List.{List, [], ◌∷◌, ◌++◌, append_assoc, append-nil}
use native.Mathlib.Omega.{arith}
use lib.Dec.{ltb}
use lib.ListN.{length, take, drop, get_or, length-append, length-drop, take-append-drop, drop_of_length-le}
use lib.Seq.{take_all, take_at, drop_at, take-add, drop-drop, length-take-le}
use borrow.Author.Tests.{ltb-true, ltb-false, le-leb}
use Rattle.buffer.specs.Buffer.{AllBytes}
use Rattle.cmd_fields.specs.Commands.{Pair}
use Rattle.exec_store.specs.Storing.{mask_byte, masked, store_masked}
use Rattle.exec_store.proofs.Laws.{masked-length}
use Rattle.mask_combine.specs.Combining.{untouched}
use Rattle.mask_combine.proofs.PairLaws.{zero-mask}
use Rattle.mask_combine.proofs.ListLaws.{drop-bytes}
use Rattle.mask_diff_spec.specs.Differences.{touches, before_first, start_from, count_at, pairs_at}
use Rattle.mask_diff_spec.specs.Writes.{write_at, writes_from, store_all}
use Rattle.mask_diff_spec.proofs.SearchLaws.{no_bit, none_before, start-touches, some_pairs, count_fits, pairs-length}

-- ---- parts of what pairs do

masked-drop : (k : ℕ) (e : List Pair) (l : List ℕ) → length e ≡ length l → drop k (masked e l) ≡ masked (drop k e) (drop k l)
unfolding masked
masked-drop zero e l h = refl
masked-drop (suc k) [] [] h = refl
masked-drop (suc k) [] (o ∷ l) h = absurd (omega arith)
masked-drop (suc k) (p ∷ e) [] h = absurd (omega arith)
masked-drop (suc k) (p ∷ e) (o ∷ l) h = masked-drop k e l (omega arith)

masked-take : (c : ℕ) (e : List Pair) (l : List ℕ) → length e ≡ length l → masked (take c e) l ≡ take c (masked e l) ++ drop c l
unfolding masked
masked-take zero e l h = refl
masked-take (suc c) [] [] h = refl
masked-take (suc c) [] (o ∷ l) h = absurd (omega arith)
masked-take (suc c) (p ∷ e) [] h = absurd (omega arith)
masked-take (suc c) (p ∷ e) (o ∷ l) h = ap (λ r. mask_byte o p ∷ r) (masked-take c e l (omega arith))

-- pairs that touch no bit
kept : (k : ℕ) (e : List Pair) (l : List ℕ) → AllBytes l → ((i : ℕ) → i < k → touches (get_or e i untouched) ≡ false) → take k (masked e l) ≡ take k l
unfolding masked
kept zero e l b h = refl
kept (suc k) [] l b h = refl
kept (suc k) (p ∷ e) [] b h = refl
kept (suc k) (p ∷ e) (o ∷ l) b h =
    ap₂ (λ x r. x ∷ r) (zero-mask o p (b 0) (no_bit p (h 0 (omega arith)))) (kept k e l (λ i. b (suc i)) (λ i j. h (suc i) (omega arith)))

-- ---- the image, done up to an index

module _ (e : List Pair) (image : List ℕ) (size : length e ≡ length image) (bytes : AllBytes image) where
  -- all done
  abbrev after : List ℕ
  after = masked e image

  abbrev up_to : ℕ → List ℕ
  up_to n = take n after ++ drop n image

  after-length : length after ≡ length image
  after-length = masked-length e image

  head_length_lem : (n : ℕ) → n ≤ length image → length (take n after) ≡ n
  head_length_lem n h = length-take-le n after (omega (arith, after-length))

  all_done : (n : ℕ) → length image ≤ n → up_to n ≡ after
  all_done n h = ap₂ ◌++◌ (take_all n after (omega (arith, after-length))) (drop_of_length-le image h) ∙ append-nil after

  -- bytes that are kept count as done
  further : (n k : ℕ) → take k (drop n after) ≡ take k (drop n image) → up_to n ≡ up_to (n + k)
  further n k h =
      sym (ap₂ ◌++◌ (take-add n k after) (sym (drop-drop k n image))
      ∙ append_assoc (take n after) (take k (drop n after)) (drop k (drop n image))
      ∙ ap (λ (l : List ℕ). take n after ++ l) (ap (λ (l : List ℕ). l ++ drop k (drop n image)) h ∙ take-append-drop k (drop n image)))

  skipped : (from : ℕ) → up_to from ≡ up_to (start_from from e)
  skipped from =
      further from (before_first (drop from e))
      (ap (take (before_first (drop from e))) (masked-drop from e image size)
      ∙ kept (before_first (drop from e)) (drop from e) (drop from image) (drop-bytes from image bytes) (none_before (drop from e)))

  -- a masked write of pairs from an index on does them
  stored : (s c : ℕ) → s + c ≤ length image → store_masked (take c (drop s e)) s (up_to s) ≡ up_to (s + c)
  unfolding store_masked
  stored s c h =
      let k : s ≤ length image = omega arith in
      let n : length (take c (drop s e)) ≡ c = length-take-le c (drop s e) (rw length-drop (omega arith)) in
      let whole : length (up_to s) ≡ length image = length-append (take s after) (drop s image) ∙ ap₂ ◌+◌ (head_length_lem s k) (length-drop s image) ∙ (let z : s + (length image - s) ≡ length image = omega arith in z) in
      rw (le-leb (s + length (take c (drop s e))) (length (up_to s)) (omega (arith, n, whole)))
      (ap₂ ◌++◌ (take_at (take s after) (drop s image) s (head_length_lem s k))
      (ap (masked (take c (drop s e))) (drop_at (take s after) (drop s image) s (head_length_lem s k))
      ∙ masked-take c (drop s e) (drop s image) (rw (length-drop, length-drop, size) refl)
      ∙ ap₂ ◌++◌ (ap (take c) (sym (masked-drop s e image size))) (drop-drop c s image))
      ∙ sym (append_assoc (take s after) (take c (drop s after)) (drop (s + c) image))
      ∙ ap (λ (l : List ℕ). l ++ drop (s + c) image) (sym (take-add s c after)))

  -- ---- all of them

  all-stored : (n from : ℕ) → length image ≤ from + n → store_all (writes_from n from e) (up_to from) ≡ after
  unfolding writes_from store_all
  all-stored zero from h = all_done from (omega arith)
  all-stored (suc n) from h = go (ltb (start_from from e) (length e)) refl
      (λ l. all-stored n (start_from from e + length (pairs_at (start_from from e) e)) l)
    where
      go : (t : Bool) → ltb (start_from from e) (length e) ≡ t →
          (length image ≤ start_from from e + length (pairs_at (start_from from e) e) + n →
          store_all (writes_from n (start_from from e + length (pairs_at (start_from from e) e)) e) (up_to (start_from from e + length (pairs_at (start_from from e) e))) ≡ after) →
          store_all (cond t (write_at (start_from from e) (pairs_at (start_from from e) e) ∷ writes_from n (start_from from e + length (pairs_at (start_from from e) e)) e) []) (up_to from) ≡ after
      go true q more =
          let l = ltb-true (start_from from e) (length e) q in
          let c = some_pairs e (start_from from e) l (start-touches e from l) in
          let f = count_fits e (start_from from e) (omega arith) in
          let k = pairs-length e (start_from from e) (omega arith) in
          ap (λ (i : List ℕ). store_all (writes_from n (start_from from e + length (pairs_at (start_from from e) e)) e) i)
          (ap (store_masked (pairs_at (start_from from e) e) (start_from from e)) (skipped from)
          ∙ stored (start_from from e) (count_at (start_from from e) e) (omega arith)
          ∙ ap (λ (j : ℕ). up_to (start_from from e + j)) (sym k))
          ∙ more (omega arith)
      go false q more = skipped from ∙ all_done (start_from from e) (omega (arith, ltb-false (start_from from e) (length e) q))

  pub writes-do : store_all (writes_from (length image) 0 e) image ≡ after
  writes-do = all-stored (length image) 0 (omega arith)
