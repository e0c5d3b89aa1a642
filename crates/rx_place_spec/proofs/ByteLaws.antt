-- Laws of the places as bytes: the place at an index, and the bytes after a change of one place.
-- Assumes nothing.
use mathlib.Core.Path.{◌≡◌, refl, sym, ap, ◌∙◌}
use mathlib.Core.Bool.{Bool, true, false, cond, not}
use mathlib.Core.List.{List, [], ◌∷◌, ◌++◌, append-nil}
use Prim.Native.Nat.{ℕ, zero, suc, ◌+◌, ◌*◌, ◌/◌, ◌%◌, ◌≤◌, ◌<◌}
use native.Mathlib.Nat.{add-zero, le_of_suc-le-suc, not-suc-le-zero}
use native.Mathlib.Omega.{arith}
use lib.Dec.{eqb, ltb}
use lib.ListN.{length, take, drop, get_or, set, length-drop, take-append-drop, drop_of_length-le, get_or-eq_default}
use lib.Seq.{drop-drop, get_or-drop, length-take-le, take_all, take_at, drop_at}
use borrow.Author.Tests.{eqb-true, eq-eqb, ne_eqb, ltb-true, ltb-false}
use Rattle.buffer.specs.Buffer.{put_at, placed}
use Rattle.buffer.proofs.Choice.{clash, by-test, and-false, and_left, and_right}
use Rattle.buffer.proofs.Laws.{placed-fits, put_first, take-before, drop-put}
use Rattle.rx_place_spec.specs.declared.Place.{Place}
use Rattle.rx_place_spec.specs.Place.{place, free_place}
use Rattle.rx_place_spec.specs.PlaceBytes.{place_in, places_from, places_in, place_bytes, same, same_place, renewed}

-- ---- the place at an index

from-length : (n : ℕ) (xs : List ℕ) → length (places_from n xs) ≡ n
from-length zero xs = refl
from-length (suc n) xs = ap suc (from-length n _)

from_at : (n i : ℕ) (xs : List ℕ) → i < n → get_or (places_from n xs) i free_place ≡ place_in (drop (8 * i) xs)
from_at zero i xs h = absurd (not-suc-le-zero h)
from_at (suc n) zero xs h = refl
from_at (suc n) (suc i) xs h =
    let m : 8 * suc i ≡ 8 + 8 * i = omega arith in
    rw (m, ← drop-drop (8 * i) 8 xs) (from_at n i (drop 8 xs) (le_of_suc-le-suc h))

pub places-length : (xs : List ℕ) → length (places_in xs) ≡ 8
unfolding places_in
places-length xs = from-length 8 xs

module _ (xs : List ℕ) (i : ℕ) where
  pub at_none : 8 ≤ i → get_or (places_in xs) i free_place ≡ free_place
  at_none h = get_or-eq_default (places_in xs) free_place (rw (places-length xs) h)

  module _ (h : i < 8) where
    at : get_or (places_in xs) i free_place ≡ place_in (drop (8 * i) xs)
    unfolding places_in
    at = from_at 8 i xs h

    byte : (k : ℕ) → get_or (drop (8 * i) xs) k 0 ≡ get_or xs (8 * i + k) 0
    byte k = get_or-drop (8 * i) xs k 0

    pub held_at : (get_or (places_in xs) i free_place).held ≡ not (eqb (get_or xs (8 * i) 0) 0)
    held_at = rw (at, byte 0, add-zero)

    pub len-at : (get_or (places_in xs) i free_place).len ≡ get_or xs (8 * i + 1) 0
    len-at = rw (at, byte 1)

    pub source-at : (get_or (places_in xs) i free_place).source ≡ get_or xs (8 * i + 2) 0 + get_or xs (8 * i + 3) 0 * 256
    source-at = rw (at, byte 2, byte 3)

    pub tick-at : (get_or (places_in xs) i free_place).tick ≡ get_or xs (8 * i + 4) 0 + get_or xs (8 * i + 5) 0 * 256
    tick-at = rw (at, byte 4, byte 5)

    pub swallowing-at : (get_or (places_in xs) i free_place).swallowing ≡ not (eqb (get_or xs (8 * i + 6) 0) 0)
    swallowing-at = rw (at, byte 6)

-- ---- one place

truth_byte : (b : Bool) → not (eqb (cond b 1 0) 0) ≡ b
truth_byte true = refl
truth_byte false = refl

two_bytes : (n : ℕ) → n % 256 + n / 256 * 256 ≡ n
two_bytes n = omega arith

bytes-place : (p : Place) (xs : List ℕ) → place_in (place_bytes p ++ xs) ≡ p
bytes-place p xs =
    let w : Bool = not (eqb (cond p.swallowing 1 0) 0) in
    ap (λ (h : Bool). place h p.len (p.source % 256 + p.source / 256 * 256) (p.tick % 256 + p.tick / 256 * 256) w) (truth_byte p.held)
    ∙ ap (λ (s : ℕ). place p.held p.len s (p.tick % 256 + p.tick / 256 * 256) w) (two_bytes p.source)
    ∙ ap (λ (t : ℕ). place p.held p.len p.source t w) (two_bytes p.tick)
    ∙ ap (place p.held p.len p.source p.tick) (truth_byte p.swallowing)

place-front : (xs : List ℕ) → place_in (take 8 xs) ≡ place_in xs
place-front [] = refl
place-front (a ∷ []) = refl
place-front (a ∷ b ∷ []) = refl
place-front (a ∷ b ∷ c ∷ []) = refl
place-front (a ∷ b ∷ c ∷ d ∷ []) = refl
place-front (a ∷ b ∷ c ∷ d ∷ e ∷ []) = refl
place-front (a ∷ b ∷ c ∷ d ∷ e ∷ f ∷ []) = refl
place-front (a ∷ b ∷ c ∷ d ∷ e ∷ f ∷ g ∷ xs) = refl

itself : (b : Bool) → same b b ≡ true
itself true = refl
itself false = refl

pub same_refl : (p : Place) → same_place p p ≡ true
unfolding same_place
same_refl p =
    rw (eq-eqb p.len p.len refl, eq-eqb p.source p.source refl, eq-eqb p.tick p.tick refl, itself p.held, itself p.swallowing) refl

same_truth : (a b : Bool) → same a b ≡ true → a ≡ b
same_truth true true e = refl
same_truth true false e = clash (sym e)
same_truth false true e = clash (sym e)
same_truth false false e = refl

pub same-eq : (p q : Place) → same_place p q ≡ true → p ≡ q
unfolding same_place
same-eq p q e =
    let h = same_truth p.held q.held (and_left (same p.held q.held) _ e) in
    let r = and_right (same p.held q.held) _ e in
    let l = eqb-true p.len q.len (and_left (eqb p.len q.len) _ r) in
    let u = and_right (eqb p.len q.len) _ r in
    let s = eqb-true p.source q.source (and_left (eqb p.source q.source) _ u) in
    let v = and_right (eqb p.source q.source) _ u in
    let t = eqb-true p.tick q.tick (and_left (eqb p.tick q.tick) _ v) in
    let w = same_truth p.swallowing q.swallowing (and_right (eqb p.tick q.tick) _ v) in
    ap (λ (b : Bool). place b p.len p.source p.tick p.swallowing) h ∙ ap (λ (n : ℕ). place q.held n p.source p.tick p.swallowing) l
    ∙ ap (λ (n : ℕ). place q.held q.len n p.tick p.swallowing) s ∙ ap (λ (n : ℕ). place q.held q.len q.source n p.swallowing) t
    ∙ ap (place q.held q.len q.source q.tick) w

-- ---- place i becomes p

from-kept : (n : ℕ) (xs : List ℕ) → renewed (places_from n xs) xs ≡ xs
from-kept zero xs = refl
from-kept (suc n) xs = rw (same_refl (place_in xs), from-kept n (drop 8 xs)) (take-append-drop 8 xs)

pub renewed-same : (xs : List ℕ) → xs ≡ renewed (places_in xs) xs
unfolding places_in
renewed-same xs = sym (from-kept 8 xs)

module _ (p : Place) where
  front : (xs : List ℕ) → put_at (8 * 0) (place_bytes p) xs ≡ place_bytes p ++ drop 8 xs
  front xs = put_first (place_bytes p) xs

  -- a place behind the first
  module _ (i : ℕ) (xs : List ℕ) (h : 8 + 8 * i ≤ length xs) where
    abbrev after : List ℕ
    after = put_at (8 + 8 * i) (place_bytes p) xs

    first-kept : take 8 after ≡ take 8 xs
    first-kept = take-before (8 + 8 * i) (place_bytes p) xs h 8 (omega arith)

    rest_put : drop 8 after ≡ put_at (8 * i) (place_bytes p) (drop 8 xs)
    rest_put = drop-put 8 (8 * i) (place_bytes p) xs h

    head : place_in after ≡ place_in xs
    head = sym (place-front after) ∙ ap place_in first-kept ∙ place-front xs

    split : take 8 xs ++ put_at (8 * i) (place_bytes p) (drop 8 xs) ≡ after
    split = rw (← first-kept, ← rest_put) (take-append-drop 8 after)

  from-put : (n i : ℕ) (xs : List ℕ) → i < n → 8 * n ≤ length xs → places_from n (put_at (8 * i) (place_bytes p) xs) ≡ set (places_from n xs) i p
  from-put zero i xs h l = absurd (not-suc-le-zero h)
  from-put (suc n) zero xs h l = rw (front xs) (ap (λ (q : Place). q ∷ places_from n (drop 8 xs)) (bytes-place p (drop 8 xs)))
  from-put (suc n) (suc i) xs h l =
      let m : 8 * suc i ≡ 8 + 8 * i = omega arith in
      let k : 8 + 8 * i ≤ length xs = omega arith in
      let ih = from-put n i (drop 8 xs) (le_of_suc-le-suc h) (rw length-drop (omega arith)) in
      rw m
      (ap (λ (q : Place). q ∷ places_from n (drop 8 (after i xs k))) (head i xs k)
      ∙ ap (λ (ys : List ℕ). place_in xs ∷ places_from n ys) (rest_put i xs k)
      ∙ ap (λ (qs : List Place). place_in xs ∷ qs) ih)

  from-renewed : (n i : ℕ) (xs : List ℕ) → i < n → 8 * n ≤ length xs → same_place (get_or (places_from n xs) i free_place) p ≡ false →
      renewed (set (places_from n xs) i p) xs ≡ put_at (8 * i) (place_bytes p) xs
  from-renewed zero i xs h l d = absurd (not-suc-le-zero h)
  from-renewed (suc n) zero xs h l d = rw (d, from-kept n (drop 8 xs)) (sym (front xs))
  from-renewed (suc n) (suc i) xs h l d =
      let m : 8 * suc i ≡ 8 + 8 * i = omega arith in
      let k : 8 + 8 * i ≤ length xs = omega arith in
      rw (same_refl (place_in xs), m, from-renewed n i (drop 8 xs) (le_of_suc-le-suc h) (rw length-drop (omega arith)) d) (split i xs k)

-- place i of the 64 bytes xs has become p
pub record Changed (i : ℕ) (p : Place) (xs after : List ℕ) : Type 0 where
  pub inside : i < 8
  pub size : length xs ≡ 64
  pub bytes : after ≡ placed (8 * i) (place_bytes p) xs

module _ {i : ℕ} {p : Place} {xs after : List ℕ} (c : Changed i p xs after) where
  put : after ≡ put_at (8 * i) (place_bytes p) xs
  put = c.bytes ∙ placed-fits (8 * i) (place_bytes p) xs (omega arith)

  pub changed-places : places_in after ≡ set (places_in xs) i p
  unfolding places_in
  changed-places = ap places_in put ∙ from-put p 8 i xs c.inside (omega arith)

  pub changed-bytes : same_place (get_or (places_in xs) i free_place) p ≡ false → after ≡ renewed (set (places_in xs) i p) xs
  unfolding places_in
  changed-bytes d = put ∙ sym (from-renewed p 8 i xs c.inside (omega arith) d)

-- ---- places changed twice

-- a place that has changed from what it is in xs to that of qs is not that of ps again
abbrev pub NotBack : List ℕ → List Place → List Place → Type 0
NotBack xs [] [] = Unit {0}
NotBack xs [] (p ∷ ps) = ⊥
NotBack xs (q ∷ qs) [] = ⊥
NotBack xs (q ∷ qs) (p ∷ ps) = (same_place (place_in xs) q ≡ false → same_place (place_in xs) p ≡ false) × NotBack (drop 8 xs) qs ps

module _ (front rest : List ℕ) (l : length front ≡ 8) where
  -- the bytes of the first place are those of xs
  front_place : (xs : List ℕ) → front ≡ take 8 xs → place_in (front ++ rest) ≡ place_in xs
  front_place xs e = sym (place-front (front ++ rest)) ∙ ap place_in (take_at front rest 8 l ∙ e) ∙ place-front xs

  front_renewed : (p : Place) (ps : List Place) → renewed (p ∷ ps) (front ++ rest) ≡ cond (same_place (place_in (front ++ rest)) p) front (place_bytes p) ++ renewed ps rest
  front_renewed p ps =
      ap (λ (ys : List ℕ). cond (same_place (place_in (front ++ rest)) p) ys (place_bytes p) ++ renewed ps (drop 8 (front ++ rest))) (take_at front rest 8 l)
      ∙ ap (λ (ys : List ℕ). cond (same_place (place_in (front ++ rest)) p) front (place_bytes p) ++ renewed ps ys) (drop_at front rest 8 l)

-- the bytes that a place gets are the same where it is the same
same_bytes : (q p : Place) (b : Bool) → same_place q p ≡ b → cond b (place_bytes q) (place_bytes p) ≡ place_bytes p
same_bytes q p true e = ap place_bytes (same-eq q p e)
same_bytes q p false e = refl

-- where the bytes end within a place, no bytes come of the places behind it
abbrev pub Covers : List ℕ → List Place → Type 0
Covers xs [] = Unit {0}
Covers xs (q ∷ qs) = (length xs < 8 → renewed qs (drop 8 xs) ≡ []) × Covers (drop 8 xs) qs

-- what the bytes become in two steps they become in one
pub renewed-twice : (xs : List ℕ) (qs ps : List Place) → Covers xs qs → NotBack xs qs ps → renewed ps (renewed qs xs) ≡ renewed ps xs
renewed-twice xs [] [] c n = refl
renewed-twice xs [] (p ∷ ps) c n = absurd n
renewed-twice xs (q ∷ qs) [] c n = absurd n
renewed-twice xs (q ∷ qs) (p ∷ ps) c n = go (same_place (place_in xs) q) refl (renewed-twice (drop 8 xs) qs ps c.1 n.1)
  where
    kept : renewed ps (renewed qs (drop 8 xs)) ≡ renewed ps (drop 8 xs) → renewed (p ∷ ps) (take 8 xs ++ renewed qs (drop 8 xs)) ≡ renewed (p ∷ ps) xs
    kept ih =
        by-test (ltb (length xs) 8)
        (λ e. let h : length xs < 8 = ltb-true (length xs) 8 e in
        ap (λ (ys : List ℕ). renewed (p ∷ ps) (take 8 xs ++ ys)) (c.0 h) ∙ ap (renewed (p ∷ ps)) (append-nil (take 8 xs) ∙ take_all 8 xs (omega arith)))
        (λ e. let k : length (take 8 xs) ≡ 8 = length-take-le 8 xs (ltb-false (length xs) 8 e) in
        rw (front_renewed (take 8 xs) (renewed qs (drop 8 xs)) k p ps, front_place (take 8 xs) (renewed qs (drop 8 xs)) k xs refl, ih))

    go : (b : Bool) → same_place (place_in xs) q ≡ b → renewed ps (renewed qs (drop 8 xs)) ≡ renewed ps (drop 8 xs) →
        renewed (p ∷ ps) (renewed (q ∷ qs) xs) ≡ renewed (p ∷ ps) xs
    go true e ih = rw e (kept ih)
    go false e ih =
        rw (e, n.0 e, ih, bytes-place q (renewed qs (drop 8 xs))) (ap (λ (ys : List ℕ). ys ++ renewed ps (drop 8 xs)) (same_bytes q p (same_place q p) refl))

-- places that change nothing where there are no bytes
pub covers_where : (f : List Place → List Place) → ((n : ℕ) → f (places_from n []) ≡ places_from n []) → (n : ℕ) (xs : List ℕ) → length xs < 8 →
    renewed (f (places_from n (drop 8 xs))) (drop 8 xs) ≡ []
covers_where f e n xs h =
    let l : length xs ≤ 8 = omega arith in
    let d : drop 8 xs ≡ [] = drop_of_length-le xs l in
    rw d (ap (λ (ps : List Place). renewed ps []) (e n) ∙ from-kept n [])

-- ---- a place that is changed

pub differ-held : (p q : Place) (b : Bool) → p.held ≡ b → q.held ≡ not b → same_place p q ≡ false
unfolding same_place
differ-held p q true e f = rw (e, f)
differ-held p q false e f = rw (e, f)

pub differ-len : (p q : Place) → (p.len ≡ q.len → ⊥) → same_place p q ≡ false
unfolding same_place
differ-len p q n = rw (ne_eqb p.len q.len n) (and-false (same p.held q.held))

pub differ-tick : (p q : Place) → (p.tick ≡ q.tick → ⊥) → same_place p q ≡ false
unfolding same_place
differ-tick p q n =
    rw (ne_eqb p.tick q.tick n, and-false (eqb p.source q.source), and-false (eqb p.len q.len)) (and-false (same p.held q.held))

pub differ-swallowing : (p q : Place) (b : Bool) → p.swallowing ≡ b → q.swallowing ≡ not b → same_place p q ≡ false
unfolding same_place
differ-swallowing p q b e f =
    rw (e, f, else b, and-false (eqb p.tick q.tick), and-false (eqb p.source q.source), and-false (eqb p.len q.len))
    (and-false (same p.held q.held))
  where
    else : (b : Bool) → same b (not b) ≡ false
    else true = refl
    else false = refl
