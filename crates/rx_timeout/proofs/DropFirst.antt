-- Laws of the places dropped one after the other.
-- Assumes nothing.
use Rattle.std.proofs.Common.{◌≡◌, ℕ, zero, suc, ◌+◌, ◌*◌, ◌<◌, true, false, List, [], ◌∷◌, length, get_or, drop, set, sym, refl, ap, ◌∙◌, add-one}
use Rattle.buffer.specs.Buffer.{placed}
use Rattle.buffer.proofs.Choice.{clash}
use Rattle.rx_place_spec.specs.declared.Place.{Place}
use Rattle.rx_place_spec.specs.Place.{free_place}
use Rattle.rx_place_spec.specs.Ticks.{is_due, after_tick, drop_due}
use Rattle.rx_place_spec.specs.PlaceBytes.{place_in, places_from, places_in, place_bytes, renewed}
use Rattle.rx_place_spec.proofs.ByteLaws.{places-length, renewed-same, same_refl, differ-held, Changed, changed-places, changed-bytes, NotBack, Covers, renewed-twice, covers_where}
use Rattle.rx_spec.proofs.DropLaws.{due_held}

-- ---- one place

-- a place that stays
set_same : (i : ℕ) (ps : List Place) → set ps i (get_or ps i free_place) ≡ ps
set_same i [] = refl
set_same zero (p ∷ ps) = refl
set_same (suc i) (p ∷ ps) = ap (λ (qs : List Place). p ∷ qs) (set_same i ps)

-- ---- the first i places

abbrev pub drop_first : ℕ → ℕ → List Place → List Place
drop_first now zero ps = ps
drop_first now (suc i) [] = []
drop_first now (suc i) (p ∷ ps) = after_tick now p ∷ drop_first now i ps

module _ (now : ℕ) where
  first_next : (i : ℕ) (ps : List Place) → set (drop_first now i ps) i (after_tick now (get_or (drop_first now i ps) i free_place)) ≡ drop_first now (suc i) ps
  first_next zero [] = refl
  first_next zero (p ∷ ps) = refl
  first_next (suc i) [] = refl
  first_next (suc i) (p ∷ ps) = ap (λ (qs : List Place). after_tick now p ∷ qs) (first_next i ps)

  first-all : (ps : List Place) → drop_first now (length ps) ps ≡ drop_due now ps
  unfolding drop_due
  first-all [] = refl
  first-all (p ∷ ps) = ap (λ (qs : List Place). after_tick now p ∷ qs) (first-all ps)

  -- nothing is dropped where there are no bytes
  first-none : (i n : ℕ) → drop_first now i (places_from n []) ≡ places_from n []
  unfolding is_due
  first-none zero n = refl
  first-none (suc i) zero = refl
  first-none (suc i) (suc n) = ap (λ (ps : List Place). place_in [] ∷ ps) (first-none i n)

  from-covers : (n i : ℕ) (xs : List ℕ) → Covers xs (drop_first now i (places_from n xs))
  from-covers zero zero xs = tt
  from-covers zero (suc i) xs = tt
  from-covers (suc n) zero xs = (covers_where (drop_first now 0) (first-none 0) n xs, from-covers n 0 (drop 8 xs))
  from-covers (suc n) (suc i) xs = (covers_where (drop_first now i) (first-none i) n xs, from-covers n i (drop 8 xs))

  -- one place more does not bring back what has changed
  first-not-back : (n i : ℕ) (xs : List ℕ) → NotBack xs (drop_first now i (places_from n xs)) (drop_first now (suc i) (places_from n xs))
  first-not-back zero zero xs = tt
  first-not-back zero (suc i) xs = tt
  first-not-back (suc n) zero xs = (λ e. clash (sym (same_refl (place_in xs)) ∙ e), stays n (drop 8 xs))
    where
      stays : (n : ℕ) (ys : List ℕ) → NotBack ys (places_from n ys) (places_from n ys)
      stays zero ys = tt
      stays (suc n) ys = (λ e. e, stays n (drop 8 ys))
  first-not-back (suc n) (suc i) xs = (λ e. e, first-not-back n i (drop 8 xs))

  places-not-back : (i : ℕ) (xs : List ℕ) → NotBack xs (drop_first now i (places_in xs)) (drop_first now (suc i) (places_in xs))
  unfolding places_in
  places-not-back i xs = first-not-back 8 i xs

  first-covers : (i : ℕ) (xs : List ℕ) → Covers xs (drop_first now i (places_in xs))
  unfolding places_in
  first-covers i xs = from-covers 8 i xs

-- after the first i places: how many bytes there are, what the places hold, and the bytes
pub record DroppedTo (now i : ℕ) (before after : List ℕ) : Type 0 where
  pub size : length after ≡ length before
  pub places : places_in after ≡ drop_first now i (places_in before)
  pub bytes : after ≡ renewed (drop_first now i (places_in before)) before

pub none_dropped : (now : ℕ) (xs : List ℕ) → DroppedTo now 0 xs xs
none_dropped now xs = record { size = refl; places = refl; bytes = renewed-same xs }

module _ (now i : ℕ) (before mid after : List ℕ) (d : DroppedTo now i before mid) (m : length after ≡ length mid) (l : length before ≡ 64) (h : i < 8) where
  abbrev at : Place
  at = get_or (places_in mid) i free_place

  -- place i has been looked at
  passed : places_in after ≡ set (places_in mid) i (after_tick now at) → after ≡ renewed (places_in after) mid → DroppedTo now (i + 1) before after
  passed e b =
      let p : places_in after ≡ drop_first now (suc i) (places_in before) =
      e ∙ ap (λ (ps : List Place). set ps i (after_tick now (get_or ps i free_place))) d.places ∙ first_next now i (places_in before) in
      let t = renewed-twice before (drop_first now i (places_in before)) (drop_first now (suc i) (places_in before)) (first-covers now i before) (places-not-back now i before) in
      rw add-one (record { size = m ∙ d.size; places = p; bytes = b ∙ ap (λ (ps : List Place). renewed ps mid) p ∙ ap (renewed (drop_first now (suc i) (places_in before))) d.bytes ∙ t })

  pub one-dropped : is_due now at ≡ true → after ≡ placed (8 * i) (place_bytes free_place) mid → DroppedTo now (i + 1) before after
  one-dropped u e =
      let c : Changed i free_place mid after = record { inside = h; size = d.size ∙ l; bytes = e } in
      passed (rw u (changed-places c)) (rw (changed-places c) (changed-bytes c (differ-held at free_place true (due_held now at u) refl)))

  pub one-kept : is_due now at ≡ false → after ≡ mid → DroppedTo now (i + 1) before after
  one-kept u e =
      passed (ap places_in e ∙ rw u (sym (set_same i (places_in mid)))) (e ∙ renewed-same mid ∙ ap (λ (ys : List ℕ). renewed (places_in ys) mid) (sym e))

pub all-dropped : (now i : ℕ) (xs after : List ℕ) → i ≡ 8 → DroppedTo now i xs after → (places_in after ≡ drop_due now (places_in xs)) × (after ≡ renewed (drop_due now (places_in xs)) xs)
all-dropped now i xs after e d =
    let q : drop_first now i (places_in xs) ≡ drop_due now (places_in xs) = ap (λ (n : ℕ). drop_first now n (places_in xs)) (e ∙ sym (places-length xs)) ∙ first-all now (places_in xs) in
    (d.places ∙ q, d.bytes ∙ ap (λ (ps : List Place). renewed ps xs) q)
