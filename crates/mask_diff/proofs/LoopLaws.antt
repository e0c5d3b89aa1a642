-- The turns of the loops, and the search as a whole.
-- Assumes nothing.
use Prim.Native.Nat.{ℕ, suc, ◌+◌, ◌-◌, ◌*◌, ◌≤◌, ◌<◌}
use mathlib.Core.Path.{◌≡◌, sym, ap, ◌∙◌}
use mathlib.Core.List.{List, [], ◌∷◌}
use native.Mathlib.Numerals.{add-one}
use native.Mathlib.Omega.{arith}
use lib.Bits.{bit_and, bit_xor}
use lib.ListN.{length, take, drop, get_or, set, length-drop, drop_of_length-le}
use lib.Seq.{drop-cons, sets}
use borrow.Author.Tests.{eq-eqb, le-leb, lt-ltb}
use Rattle.std.proofs.lemmas.List.{take_min}
use Rattle.buffer.specs.Buffer.{over}
use Rattle.buffer.proofs.Laws.{put_sets, put_first}
use Rattle.tool_write_spec.specs.Writing.{pair_bytes}
use Rattle.tool_write_spec.proofs.WritingLaws.{pair-bytes-length}
use Rattle.mask_combine.specs.Combining.{untouched}
use Rattle.mask_diff_spec.specs.Differences.{change_of, difference, up_to_last, start_from, count_at, next_change}
use Rattle.mask_diff_spec.proofs.DifferenceLaws.{difference-length, difference-at, difference-drop, difference-take}
use Rattle.mask_diff_spec.proofs.SearchLaws.{pairs-length}
use Rattle.mask_diff.specs.Changes.{first_from, Finds}
use Rattle.std.specs.Prelude.{Some, Ok, min}

pair-at : (old new : List ℕ) → length old ≡ length new → (i : ℕ) → i < length old →
    drop i (difference old new) ≡ change_of (get_or old i 0) (get_or new i 0) ∷ drop (suc i) (difference old new)
pair-at old new size i h =
    let n = difference-length old new size in
    drop-cons (difference old new) i untouched (omega arith) ∙ ap (λ p. p ∷ drop (suc i) (difference old new)) (difference-at old new i size h)

-- ---- the pairs in a buffer

module _ (old new : List ℕ) (size : length old ≡ length new) where
  pub put_turn : (i : ℕ) (pairs : List ℕ) → i < length old →
      sets pairs (2 * i) (pair_bytes (drop i (difference old new)))
      ≡ sets (set (set pairs (2 * i) (bit_xor (get_or old i 0) (get_or new i 0))) (2 * i + 1) (bit_and (get_or new i 0) (bit_xor (get_or old i 0) (get_or new i 0)))) (2 * (i + 1)) (pair_bytes (drop (i + 1) (difference old new)))
  unfolding pair_bytes
  put_turn i pairs h =
      let a : 2 * i + 1 ≡ suc (2 * i) = omega arith in
      let b : 2 * (i + 1) ≡ suc (suc (2 * i)) = omega arith in
      rw (pair-at old new size i h, a, b, add-one i)

  pub put_done : (pairs done : List ℕ) (i : ℕ) → length old ≤ i → 2 * length old ≤ length pairs →
      sets pairs 0 (pair_bytes (difference old new)) ≡ sets done (2 * i) (pair_bytes (drop i (difference old new))) → done ≡ over (pair_bytes (difference old new)) pairs
  unfolding pair_bytes
  put_done pairs done i h room q =
      let n = difference-length old new size in
      let m = pair-bytes-length (difference old new) in
      let none : drop i (difference old new) ≡ [] = drop_of_length-le (difference old new) {i = i} (omega arith) in
      sym (q ∙ ap (λ l. sets done (2 * i) (pair_bytes l)) none) ∙ put_sets 0 (pair_bytes (difference old new)) pairs (omega arith) ∙ put_first (pair_bytes (difference old new)) pairs

-- ---- what is found

module _ (old new : List ℕ) (size : length old ≡ length new) where
  -- the pairs of so many bytes from an index on
  part : (n start : ℕ) → difference (take (start + n - start) (drop start old)) (take (start + n - start) (drop start new)) ≡ take n (drop start (difference old new))
  part n start =
      let z : start + n - start ≡ n = omega arith in
      rw z (sym (difference-take n (drop start old) (drop start new)) ∙ sym (ap (take n) (difference-drop start old new size)))

  module _ {start : ℕ} (inside : start < length old) where
    -- as many as a masked write may have
    most : {n : ℕ} → n ≡ min 32 (length old - start) → take n (drop start (difference old new)) ≡ take 32 (drop start (difference old new))
    most e =
        let n = difference-length old new size in
        let l = length-drop start (difference old new) in
        let k : length old - start ≡ length (drop start (difference old new)) = omega arith in
        rw (e, k) (take_min 32 (drop start (difference old new)))

    module _ (from : ℕ) (first : Some start ≡ first_from from (difference old new)) (pairs : List ℕ) (room : 64 ≤ length pairs) where
      pub find_at : {n count : ℕ} → n ≡ min 32 (length old - start) →
          count ≡ up_to_last (difference (take (start + n - start) (drop start old)) (take (start + n - start) (drop start new))) → {after : List ℕ} →
          after ≡ over (pair_bytes (difference (take (start + count - start) (drop start old)) (take (start + count - start) (drop start new)))) pairs →
          Finds (next_change old new from (length pairs)) (Ok (Some (record { start = start; count = count }))) pairs after
      unfolding next_change
      find_at {n} {count} m last q =
          let l = difference-length old new size in
          let s : start ≡ start_from from (difference old new) = grind arith in
          let c : count ≡ count_at start (difference old new) = last ∙ ap up_to_last (part n start ∙ most m) in
          rw (eq-eqb (length old) (length new) size, le-leb 64 (length pairs) room, ← s, lt-ltb start (length (difference old new)) (omega arith))
          (record {
            answer = ap (λ (k : ℕ). Ok (Some (record { start = start; count = k }))) (c ∙ sym (pairs-length (difference old new) start (omega arith)));
            buffer = q ∙ ap (λ l. over (pair_bytes l) pairs) (part count start ∙ ap (λ (k : ℕ). take k (drop start (difference old new))) c);
          })
