-- Laws of what a write and a masked write store.
-- Assumes nothing.
use Prim.Native.Nat.{ℕ, suc, ◌+◌, ◌/◌, ◌≤◌, ◌<◌}
use mathlib.Core.Path.{◌≡◌, refl, ap}
use mathlib.Core.List.{List, [], ◌∷◌, ◌++◌}
use native.Mathlib.Numerals.{add-one}
use native.Mathlib.Omega.{arith}
use lib.Dec.{leb}
use lib.ListN.{length, take, drop, get_or, set, length-append, length-take, length-drop, take-append-drop}
use lib.Seq.{drop-cons, take-suc-set, drop-set-lt, append_snoc, length-take-le, take_at, drop_at, drop-drop}
use borrow.Author.Tests.{leb-true, le-leb, lt-leb}
use Rattle.buffer.specs.Buffer.{put_at, placed}
use Rattle.buffer.proofs.Choice.{cond-elim}
use Rattle.buffer.proofs.Laws.{put_length, take-before, drop-behind}
use Rattle.cmd_fields.specs.Commands.{Pair, pair, pairs_of}
use Rattle.cmd_fields.proofs.Laws.{pairs-length}
use Rattle.exec_store.specs.Storing.{store_bytes, mask_byte, masked, store_masked, OnlyWithin}

-- ---- masked writes

-- a pair, and those behind it
pub pairs-next : (two rest : List ℕ) → length two ≡ 2 → pairs_of (two ++ rest) ≡ pair (get_or two 0 0) (get_or two 1 0) ∷ pairs_of rest
unfolding pairs_of
pairs-next [] rest e = absurd (omega arith)
pairs-next (m ∷ []) rest e = absurd (omega arith)
pairs-next (m ∷ v ∷ []) rest e = refl
pairs-next (m ∷ v ∷ w ∷ more) rest e = absurd (omega arith)

pub masked-step : (two rest l : List ℕ) (k v : ℕ) → length two ≡ 2 → k < length l → v ≡ mask_byte (get_or l k 0) (pair (get_or two 0 0) (get_or two 1 0))
    → take k l ++ masked (pairs_of (two ++ rest)) (drop k l) ≡ take (k + 1) (set l k v) ++ masked (pairs_of rest) (drop (k + 1) (set l k v))
unfolding masked
masked-step two rest l k v e h q =
    let lt : k < suc k = omega arith in
    rw (pairs-next two rest e, drop-cons l k 0 h, add-one k, take-suc-set l k v h, drop-set-lt (suc k) l k v lt, append_snoc, q)

pairs-short : (l : List ℕ) → length l ≤ 1 → pairs_of l ≡ []
unfolding pairs_of
pairs-short [] h = refl
pairs-short (m ∷ []) h = refl
pairs-short (m ∷ v ∷ l) h = absurd (omega arith)

pub masked-end : (rest l : List ℕ) (k : ℕ) → length rest < 2 → take k l ++ masked (pairs_of rest) (drop k l) ≡ l
unfolding masked
masked-end rest l k h = rw (pairs-short rest (omega arith)) (take-append-drop k l)

-- where all pairs fit, and where not
module _ (p l : List ℕ) (k : ℕ) where
  pub masked-start : k + length p / 2 ≤ length l → store_masked (pairs_of p) k l ≡ take k l ++ masked (pairs_of p) (drop k l)
  unfolding store_masked
  masked-start h = rw (pairs-length p, le-leb _ _ h)

  pub masked-not : length l < k + length p / 2 → l ≡ store_masked (pairs_of p) k l
  unfolding store_masked
  masked-not h = rw (pairs-length p, lt-leb _ _ h)

-- ---- the bytes that a write changes

same-within : (index n : ℕ) (l : List ℕ) → OnlyWithin index n l l
same-within index n l = record { size = refl; before = refl; behind = refl }

pub bytes-within : (bytes memory : List ℕ) (index : ℕ) → OnlyWithin index (length bytes) memory (store_bytes bytes index memory)
unfolding placed
bytes-within bytes memory index =
    cond-elim (λ (l : List ℕ). OnlyWithin index (length bytes) memory l) (leb (index + length bytes) (length memory))
    {a = put_at index bytes memory} {b = memory}
    (λ e.
    let h = leb-true (index + length bytes) (length memory) e in
    let k : index ≤ length memory = omega arith in
    record {
      size = put_length index bytes memory k h;
      before = take-before index bytes memory k index (omega arith);
      behind = drop-behind index bytes memory k (index + length bytes) (omega arith);
    })
    (λ _. same-within index (length bytes) memory)

pub masked-length : (pairs : List Pair) (l : List ℕ) → length (masked pairs l) ≡ length l
unfolding masked
masked-length [] l = refl
masked-length (p ∷ more) [] = refl
masked-length (p ∷ more) (old ∷ l) = ap suc (masked-length more l)

masked-behind : (pairs : List Pair) (l : List ℕ) → drop (length pairs) (masked pairs l) ≡ drop (length pairs) l
unfolding masked
masked-behind [] l = refl
masked-behind (p ∷ more) [] = refl
masked-behind (p ∷ more) (old ∷ l) = masked-behind more l

pub pairs-within : (pairs : List Pair) (memory : List ℕ) (index : ℕ) → OnlyWithin index (length pairs) memory (store_masked pairs index memory)
unfolding store_masked
pairs-within pairs memory index =
    cond-elim (λ (l : List ℕ). OnlyWithin index (length pairs) memory l) (leb (index + length pairs) (length memory))
    {a = take index memory ++ masked pairs (drop index memory)} {b = memory}
    (λ e.
    let h = leb-true (index + length pairs) (length memory) e in
    let k : length (take index memory) ≡ index = length-take-le index memory (omega arith) in
    let m = masked pairs (drop index memory) in
    record {
      size = rw (length-append (take index memory) m, masked-length pairs (drop index memory), length-take, length-drop) (omega arith);
      before = take_at (take index memory) m index k;
      behind = rw (← drop-drop (length pairs) index (take index memory ++ m), drop_at (take index memory) m index k, masked-behind pairs (drop index memory)) (drop-drop (length pairs) index memory);
    })
    (λ _. same-within index (length pairs) memory)
