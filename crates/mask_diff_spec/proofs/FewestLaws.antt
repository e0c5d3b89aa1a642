-- No fewer masked writes make the old image the new one.
-- Assumes nothing.
use Prim.Native.Nat.{ℕ, zero, suc, ◌+◌, ◌-◌, ◌≤◌, ◌<◌}
use mathlib.Core.Path.{◌≡◌, refl, sym, ap, ◌∙◌}
use mathlib.Core.Bool.{Bool, true, false, cond, ◌&&◌, ◌||◌}
use mathlib.Core.List.{List, [], ◌∷◌}
use native.Mathlib.Omega.{arith}
use lib.Dec.{leb, ltb}
use lib.ListN.{length, take, drop, get_or, get_or-eq_default}
use lib.Seq.{get_or-take, get_or-drop}
use borrow.Author.Tests.{ltb-true, ltb-false, leb-true, leb-false}
use Rattle.buffer.specs.Buffer.{Each}
use Rattle.buffer.proofs.Choice.{clash, and_left, and_right, or_left, or_right}
use Rattle.cmd_fields.specs.Commands.{Pair}
use Rattle.exec_store.specs.Storing.{store_masked, OnlyWithin}
use Rattle.exec_store.proofs.Laws.{pairs-within}
use Rattle.mask_combine.specs.Combining.{untouched}
use Rattle.mask_diff_spec.specs.Differences.{touches, difference, start_from, count_at, pairs_at}
use Rattle.mask_diff_spec.specs.Writes.{ImageWrite, write_at, writes_from, store_all, AllUpdates}
use Rattle.mask_diff_spec.proofs.ByteLaws.{same_byte}
use Rattle.mask_diff_spec.proofs.DifferenceLaws.{difference-length, difference-at, difference-does, difference-effect, difference-least}
use Rattle.mask_diff_spec.proofs.SearchLaws.{none-behind, start-touches, pairs-length, sizes}
use Rattle.mask_diff_spec.proofs.StoreLaws as store

-- ---- the bytes that a write reaches

covers : ImageWrite → ℕ → Bool
covers w i = leb w.start i && ltb i (w.start + length w.pairs)

record Covered (w : ImageWrite) (i : ℕ) : Type 0 where
  low : w.start ≤ i
  high : i < w.start + length w.pairs

covered : (w : ImageWrite) (i : ℕ) → covers w i ≡ true → Covered w i
unfolding covers
covered w i t =
    record {
      low = leb-true w.start i (and_left (leb w.start i) _ t);
      high = ltb-true i (w.start + length w.pairs) (and_right (leb w.start i) _ t);
    }

-- A byte that it does not reach stays.
stays : (w : ImageWrite) (image : List ℕ) (i : ℕ) → covers w i ≡ false → get_or (store_masked w.pairs w.start image) i 0 ≡ get_or image i 0
unfolding covers
stays w image i t = go (leb w.start i) refl (ltb i (w.start + length w.pairs)) refl t
  where
    within : OnlyWithin w.start (length w.pairs) image (store_masked w.pairs w.start image)
    within = pairs-within w.pairs image w.start

    go : (a : Bool) → leb w.start i ≡ a → (b : Bool) → ltb i (w.start + length w.pairs) ≡ b → (a && b) ≡ false →
        get_or (store_masked w.pairs w.start image) i 0 ≡ get_or image i 0
    go true p true q u = clash u
    go true p false q u =
        let k = ltb-false i (w.start + length w.pairs) q in
        let n = w.start + length w.pairs in
        let j : i ≡ n + (i - n) = omega arith in
        rw j (sym (get_or-drop n (store_masked w.pairs w.start image) (i - n) 0) ∙ ap (λ (l : List ℕ). get_or l (i - n) 0) within.behind ∙ get_or-drop n image (i - n) 0)
    go false p b q u =
        let k = leb-false w.start i p in
        sym (get_or-take w.start (store_masked w.pairs w.start image) i 0 k) ∙ ap (λ (l : List ℕ). get_or l i 0) within.before ∙ get_or-take w.start image i 0 k

any_covers : List ImageWrite → ℕ → Bool
any_covers [] i = false
any_covers (w ∷ ws) i = covers w i || any_covers ws i

all_stay : (ws : List ImageWrite) (image : List ℕ) (i : ℕ) → any_covers ws i ≡ false → get_or (store_all ws image) i 0 ≡ get_or image i 0
unfolding any_covers store_all
all_stay [] image i t = refl
all_stay (w ∷ ws) image i t =
    all_stay ws (store_masked w.pairs w.start image) i (or_right (covers w i) (any_covers ws i) t)
    ∙ stays w image i (or_left (covers w i) (any_covers ws i) t)

-- So every byte that changes is reached.
reached : (old new : List ℕ) (ws : List ImageWrite) → length old ≡ length new → store_all ws old ≡ new →
    (i : ℕ) → touches (get_or (difference old new) i untouched) ≡ true → any_covers ws i ≡ true
reached old new ws size e i t = go (any_covers ws i) refl
  where
    inside : (b : Bool) → ltb i (length old) ≡ b → i < length old
    inside true q = ltb-true i (length old) q
    inside false q =
        let k = ltb-false i (length old) q in
        clash (sym t ∙ ap touches (get_or-eq_default (difference old new) untouched {n = i} (omega (arith, difference-length old new size))))

    go : (b : Bool) → any_covers ws i ≡ b → any_covers ws i ≡ true
    go true q = q
    go false q =
        let l : i < length old = inside (ltb i (length old)) refl in
        let same : get_or old i 0 ≡ get_or new i 0 = sym (all_stay ws old i q) ∙ ap (λ (k : List ℕ). get_or k i 0) e in
        clash (sym t ∙ ap touches (difference-at old new i size l) ∙ same_byte (get_or old i 0) (get_or new i 0) same)

-- ---- one write taken out of a list

record Out (ws : List ImageWrite) (s : ℕ) : Type 0 where
  write : ImageWrite
  others : List ImageWrite
  size : length ws ≡ suc (length others)
  here : Covered write s
  short : length write.pairs ≤ 32
  all_short : Each (λ (w : ImageWrite). length w.pairs ≤ 32) others
  elsewhere : (i : ℕ) → any_covers ws i ≡ true → covers write i ≡ false → any_covers others i ≡ true

take_out : (ws : List ImageWrite) (s : ℕ) → Each (λ (w : ImageWrite). length w.pairs ≤ 32) ws → any_covers ws s ≡ true → Out ws s
unfolding any_covers
take_out [] s h t = clash (sym t)
take_out (w ∷ ws) s h t = go (covers w s) refl (take_out ws s h.1)
  where
    first : covers w s ≡ true → Out (w ∷ ws) s
    first q =
        record {
          write = w;
          others = ws;
          size = refl;
          here = covered w s q;
          short = h.0;
          all_short = h.1;
          elsewhere = λ i a b. rw b at a;
        }

    later : covers w s ≡ false → Out ws s → Out (w ∷ ws) s
    later q o =
        record {
          write = o.write;
          others = w ∷ o.others;
          size = ap suc o.size;
          here = o.here;
          short = o.short;
          all_short = (h.0, o.all_short);
          elsewhere = λ i a b. either i (covers w i) refl a (λ c. o.elsewhere i c b);
        }
      where
        either : (i : ℕ) (c : Bool) → covers w i ≡ c → (covers w i || any_covers ws i) ≡ true → (any_covers ws i ≡ true → any_covers o.others i ≡ true) →
            (covers w i || any_covers o.others i) ≡ true
        either i true p a f = rw p refl
        either i false p a f = rw p (f (rw p at a))

    go : (c : Bool) → covers w s ≡ c → (any_covers ws s ≡ true → Out ws s) → Out (w ∷ ws) s
    go true q more = first q
    go false q more = later q (more (rw q at t))

-- ---- the number of writes

module _ (e : List Pair) where
  -- No byte changes between the end of a write and the 32nd byte from its start.
  gap : (s i : ℕ) → s + count_at s e ≤ i → i < s + 32 → touches (get_or e i untouched) ≡ false
  gap s i a b =
      let j : i ≡ s + (i - s) = omega arith in
      rw j
      (rw (← get_or-drop s e (i - s) untouched, ← get_or-take 32 (drop s e) (i - s) untouched (omega arith)) (none-behind (take 32 (drop s e)) (i - s) (omega arith)))

  few : (n from : ℕ) (ws : List ImageWrite) → Each (λ (w : ImageWrite). length w.pairs ≤ 32) ws →
      ((i : ℕ) → from ≤ i → touches (get_or e i untouched) ≡ true → any_covers ws i ≡ true) → length (writes_from n from e) ≤ length ws
  unfolding writes_from
  few zero from ws h c = omega arith
  few (suc n) from ws h c =
      go (ltb (start_from from e) (length e)) refl (few n (start_from from e + length (pairs_at (start_from from e) e)))
    where
      uncovered : (w : ImageWrite) (s i : ℕ) → Covered w s → length w.pairs ≤ 32 → s + count_at s e ≤ i → touches (get_or e i untouched) ≡ true →
          (b : Bool) → covers w i ≡ b → covers w i ≡ false
      uncovered w s i here short l t true q =
          let k = covered w i q in
          let a = here.low in
          let b = k.high in
          clash (sym t ∙ gap s i l (omega arith))
      uncovered w s i here short l t false q = q

      go : (t : Bool) → ltb (start_from from e) (length e) ≡ t →
          ((ws : List ImageWrite) → Each (λ (w : ImageWrite). length w.pairs ≤ 32) ws →
          ((i : ℕ) → start_from from e + length (pairs_at (start_from from e) e) ≤ i → touches (get_or e i untouched) ≡ true → any_covers ws i ≡ true) →
          length (writes_from n (start_from from e + length (pairs_at (start_from from e) e)) e) ≤ length ws) →
          length (cond t (write_at (start_from from e) (pairs_at (start_from from e) e) ∷ writes_from n (start_from from e + length (pairs_at (start_from from e) e)) e) []) ≤ length ws
      go true q more =
          let l = ltb-true (start_from from e) (length e) q in
          let p = pairs-length e (start_from from e) (omega arith) in
          let o : Out ws (start_from from e) = take_out ws (start_from from e) h (c (start_from from e) (omega arith) (start-touches e from l)) in
          let m = more o.others o.all_short (λ i a t. o.elsewhere i (c i (omega arith) t)
          (uncovered o.write (start_from from e) i o.here o.short (omega arith) t (covers o.write i) refl)) in
          let k = o.size in
          omega arith
      go false q more = omega arith

pub all-updates : AllUpdates
all-updates old new size a b =
    let n = difference-length old new size in
    let d = difference-does old new size a b in
    record {
      does = store.writes-do (difference old new) old n a ∙ d;
      sizes = sizes (difference old new) (length old) 0;
      effect = difference-effect old new size a b;
      together = d;
      least = λ e f q. difference-least old new a e f.size f.proper q;
      fewest = λ ws h e. few (difference old new) (length old) 0 ws h (λ i _ t. reached old new ws size e i t);
    }
