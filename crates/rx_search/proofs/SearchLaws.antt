-- Laws of the loops over the places: the first free one, and the place of a source with the test for B7 and what is due.
-- Assumes nothing.
use mathlib.Core.Path.{◌≡◌, refl, sym, ap, ◌∙◌}
use mathlib.Core.Bool.{Bool, true, false, cond, not, ◌||◌}
use mathlib.Core.List.{List, [], ◌∷◌, ◌++◌}
use Prim.Native.Nat.{ℕ, zero, suc, ◌+◌, ◌≤◌, ◌<◌}
use native.Mathlib.Numerals.{add-one}
use native.Mathlib.Omega.{arith}
use Rattle.std.specs.Prelude.{Ok, Err}
use lib.ListN.{length, take, drop, get_or, drop_of_length-le}
use lib.Seq.{drop-cons, take-suc, take_all}
use Rattle.buffer.proofs.Choice.{clash}
use Rattle.rx_place_spec.specs.declared.Place.{Place}
use Rattle.rx_place_spec.specs.Place.{free_place}
use Rattle.rx_place_spec.specs.Ticks.{is_due}
use Rattle.rx_spec.specs.Reception.{is_for, place_of, free_in, has_place, sound_beside, sound}
use Rattle.rx_spec.proofs.PlaceLaws.{is_for-held, is_for-source, is_for-self, none-head, none_tail, Fine, Good, beside_fine, fine-beside, good-sound, sound-good, place_out}
use Rattle.rx_place_check.proofs.BesideLaws.{or_false, has_snoc, has_next, none-at, plain-sound}
use Rattle.rx_place_check.specs.Plain.{passing}
use Rattle.rx_search.specs.Search.{any_due, looked, unsound, looked_up}

-- ---- the first free place

free_at : (p : Place) (ps : List Place) → p.held ≡ false → free_in (p ∷ ps) ≡ 0
free_at p ps e = rw e

free_on : (p : Place) (ps : List Place) → p.held ≡ true → free_in (p ∷ ps) ≡ suc (free_in ps)
free_on p ps e = rw e

module _ (ps : List Place) (i : ℕ) (h : i < length ps) where
  pub free_here : (get_or ps i free_place).held ≡ false → free_in (drop i ps) ≡ 0
  free_here e = rw (drop-cons ps i free_place h) (free_at (get_or ps i free_place) (drop (suc i) ps) e)

  pub free_next : (get_or ps i free_place).held ≡ true → free_in (drop i ps) ≡ suc (free_in (drop (i + 1) ps))
  free_next e = rw (add-one, drop-cons ps i free_place h) (free_on (get_or ps i free_place) (drop (suc i) ps) e)

pub free_none : (ps : List Place) (i : ℕ) → length ps ≤ i → free_in (drop i ps) ≡ 0
free_none ps i h = ap free_in (drop_of_length-le ps h)

-- ---- one place more

-- that two places are of one source is seen at either of them
apart : (p q : Place) → q.held ≡ true → (p.held ≡ true → is_for p.source q ≡ false) → is_for q.source p ≡ false
apart p q h f = go (is_for q.source p) refl
  where
    go : (b : Bool) → is_for q.source p ≡ b → is_for q.source p ≡ false
    go true e = clash (sym (is_for-self p.source q h (sym (is_for-source q.source p e))) ∙ f (is_for-held q.source p e))
    go false e = e

good-snoc : (xs : List Place) (p : Place) → Good xs → (p.held ≡ true → Fine p xs) → Good (xs ++ p ∷ [])
good-snoc [] p g f = (f, tt)
good-snoc (q ∷ xs) p g f = (
  λ h. record {
    short = (g.0 h).short;
    small = (g.0 h).small;
    alone = has_snoc q.source xs p ∙ rw ((g.0 h).alone, apart p q h (λ u. none-head p.source q xs (f u).alone));
  },
  good-snoc xs p g.1 (λ u. record { short = (f u).short; small = (f u).small; alone = none_tail p.source q xs (f u).alone }),
)

module _ (ps : List Place) (i : ℕ) (h : i < length ps) where
  good-next : Good (take i ps) → ((get_or ps i free_place).held ≡ true → Fine (get_or ps i free_place) (take i ps)) → Good (take (i + 1) ps)
  good-next g f = rw (add-one, take-suc ps i free_place h) (good-snoc (take i ps) (get_or ps i free_place) g f)

-- in a sound state a held place is sound beside those before it
good-fine : (ps : List Place) (i : ℕ) → Good ps → i < length ps → (get_or ps i free_place).held ≡ true → Fine (get_or ps i free_place) (take i ps)
good-fine [] i g h u = absurd (omega arith)
good-fine (q ∷ ps) zero g h u = record { short = (g.0 u).short; small = (g.0 u).small; alone = refl }
good-fine (q ∷ ps) (suc i) g h u =
    let f : Fine (get_or ps i free_place) (take i ps) = good-fine ps i g.1 (omega arith) u in
    record {
      short = f.short;
      small = f.small;
      alone = rw (apart q (get_or ps i free_place) u (λ v. none-at q.source i ps (g.0 v).alone)) f.alone;
    }

-- ---- a turn of the search

-- what passes by either test passes by B7
pub passing-sound : (plain : Bool) (ps : List Place) (p : Place) → passing plain ps p ≡ true → (not p.held || sound_beside ps p) ≡ true
passing-sound false ps p e = e
passing-sound true ps p e = sym (plain-sound ps p e)

-- what is found of s among the first i places
abbrev seen : ℕ → List Place → ℕ → ℕ
seen s ps i = cond (has_place s (take i ps)) (place_of s ps) 8

-- B7 lets the first i places pass, and what is found of s among them
abbrev pub Passed : ℕ → List Place → ℕ → ℕ → Type 0
Passed s ps i found = (i ≤ 8) × (found ≤ 8) × Good (take i ps) × (found ≡ seen s ps i)

place_is : (s i : ℕ) (ps : List Place) → i < length ps → has_place s (take i ps) ≡ false → is_for s (get_or ps i free_place) ≡ true → place_of s ps ≡ i
place_is s i [] h a e = absurd (omega arith)
place_is s zero (p ∷ ps) h a e = rw e
place_is s (suc i) (p ∷ ps) h a e = rw (none-head s p (take i ps) a) (ap suc (place_is s i ps (omega arith) (none_tail s p (take i ps) a) e))

module _ (s : ℕ) (ps : List Place) (i : ℕ) (l : length ps ≡ 8) (h : i < 8) where
  abbrev p : Place
  p = get_or ps i free_place

  seen_here : has_place s (take i ps) ≡ false → is_for s p ≡ true → seen s ps (i + 1) ≡ i
  seen_here a e = rw (has_next ps i (omega arith) s, a, e) (place_is s i ps (omega arith) a e)

  seen_else : is_for s p ≡ false → seen s ps (i + 1) ≡ seen s ps i
  seen_else e = rw (has_next ps i (omega arith) s, e, or_false (has_place s (take i ps)))

  not_sound : p.held ≡ true → sound_beside (take i ps) p ≡ false → sound ps ≡ false
  not_sound u e = go (sound ps) refl
    where
      go : (b : Bool) → sound ps ≡ b → sound ps ≡ false
      go true q = clash (sym (fine-beside (take i ps) p (good-fine ps i (sound-good ps q) (omega arith) u)) ∙ e)
      go false q = q

  -- place i passes too, and the place of s is found where it is that
  module _ (found x : ℕ) (inv : Passed s ps i found) (b : passing false (take i ps) p ≡ true) (q : x ≡ cond (is_for s p) i found) where
    fine : p.held ≡ true → Fine p (take i ps)
    fine u = beside_fine (take i ps) p (rw u at b)

    passes : x ≤ 8 → x ≡ seen s ps (i + 1) → Passed s ps (i + 1) x
    passes m e = (omega arith, m, good-next ps i (omega arith) inv.2 fine, e)

    pub turn : Passed s ps (i + 1) x
    turn = go (is_for s p) refl
      where
        go : (z : Bool) → is_for s p ≡ z → Passed s ps (i + 1) x
        go true e =
            let f = fine (is_for-held s p e) in
            let y : x ≡ i = q ∙ rw e in
            passes (omega arith) (y ∙ sym (seen_here (rw (is_for-source s p e) at f.alone) e))
        go false e =
            let y : x ≡ found = q ∙ rw e in
            passes (omega (arith, inv.1)) (y ∙ inv.3 ∙ sym (seen_else e))

-- ---- B7 by itself

module _ (ps : List Place) (i : ℕ) (l : length ps ≡ 8) (h : i < 8) where
  pub sound-next : Good (take i ps) → (not (get_or ps i free_place).held || sound_beside (take i ps) (get_or ps i free_place)) ≡ true → Good (take (i + 1) ps)
  sound-next g e = good-next ps i (omega arith) g (λ u. beside_fine (take i ps) (get_or ps i free_place) (rw u at e))

  pub sound-not : (not (get_or ps i free_place).held || sound_beside (take i ps) (get_or ps i free_place)) ≡ false → sound ps ≡ false
  sound-not e = go (get_or ps i free_place).held refl
    where
      go : (b : Bool) → (get_or ps i free_place).held ≡ b → sound ps ≡ false
      go true u = not_sound 0 ps i l h u (rw u at e)
      go false u = clash (rw u at e)

pub sound-all : (ps : List Place) (i : ℕ) → length ps ≡ 8 → 8 ≤ i → Good (take i ps) → sound ps ≡ true
sound-all ps i l h g = good-sound ps (rw (take_all i ps (omega arith)) at g)

-- ---- what is due

due_snoc : (now : ℕ) (xs : List Place) (p : Place) → any_due now (xs ++ p ∷ []) ≡ any_due now xs || is_due now p
due_snoc now [] p = or_false (is_due now p)
due_snoc now (q ∷ xs) p = go (is_due now q) (due_snoc now xs p)
  where
    go : (b : Bool) → any_due now (xs ++ p ∷ []) ≡ any_due now xs || is_due now p → b || any_due now (xs ++ p ∷ []) ≡ (b || any_due now xs) || is_due now p
    go true e = refl
    go false e = e

pub due_next : (now : ℕ) (ps : List Place) (i : ℕ) → i < length ps → any_due now (take (i + 1) ps) ≡ any_due now (take i ps) || is_due now (get_or ps i free_place)
due_next now ps i h = rw (add-one, take-suc ps i free_place h) (due_snoc now (take i ps) (get_or ps i free_place))

-- no place is held
pub due_none : (now : ℕ) (ps : List Place) → ((i : ℕ) → (get_or ps i free_place).held ≡ false) → any_due now ps ≡ false
unfolding is_due
due_none now [] free = refl
due_none now (p ∷ ps) free = rw (free 0, due_none now ps (λ i. free (suc i)))

-- ---- the end of the search

pub looked-bad : (s now : ℕ) (ps : List Place) → sound ps ≡ false → Err unsound ≡ looked_up s now ps
unfolding looked_up
looked-bad s now ps e = rw e

pub looked-done : (s now : ℕ) (ps : List Place) (i found : ℕ) (due : Bool) → length ps ≡ 8 → 8 ≤ i → Passed s ps i found → due ≡ any_due now (take i ps) →
    Ok (looked found due) ≡ looked_up s now ps
unfolding looked_up
looked-done s now ps i found due l h inv d =
    let t = take_all i ps (omega arith) in
    let y : found ≡ cond (has_place s ps) (place_of s ps) 8 = rw t at inv.3 in
    let z : due ≡ any_due now ps = rw t at d in
    rw (good-sound ps (rw t at inv.2), z) (ap (λ (n : ℕ). Ok (looked n (any_due now ps))) (y ∙ go (has_place s ps) refl))
  where
    go : (b : Bool) → has_place s ps ≡ b → cond (has_place s ps) (place_of s ps) 8 ≡ place_of s ps
    go true q = rw q
    go false q = rw q (sym (place_out s ps q ∙ l))
