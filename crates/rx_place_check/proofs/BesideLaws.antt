-- Laws of a place beside those before it: whether one of them is for a source, and B7.
-- Assumes nothing.
use mathlib.Core.Path.{◌≡◌, refl, sym, ap, ◌∙◌}
use mathlib.Core.Bool.{Bool, true, false, not, ◌||◌}
use mathlib.Core.List.{List, [], ◌∷◌, ◌++◌}
use Prim.Native.Nat.{ℕ, zero, suc, ◌+◌, ◌<◌}
use native.Mathlib.Numerals.{add-one}
use lib.Dec.{leb, ltb}
use lib.ListN.{length, take, get_or}
use lib.Seq.{take-suc, get_or-take}
use borrow.Author.Tests.{ltb-true, ltb-false}
use Rattle.buffer.proofs.Choice.{clash, by-test, and_right}
use Rattle.rx_place_spec.specs.declared.Place.{Place}
use Rattle.rx_place_spec.specs.Place.{free_place}
use Rattle.rx_spec.specs.Reception.{is_for, has_place, sound_beside}
use Rattle.rx_place_spec.specs.PlaceBytes.{places_in}
use Rattle.rx_spec.proofs.PlaceLaws.{is_for-free, none-head, none_tail}
use Rattle.rx_place_spec.proofs.ByteLaws.{at_none}
use Rattle.rx_place_check.specs.Plain.{plain_beside}

-- ---- one place more

pub or_false : (b : Bool) → b || false ≡ b
or_false true = refl
or_false false = refl

pub has_snoc : (s : ℕ) (xs : List Place) (p : Place) → has_place s (xs ++ p ∷ []) ≡ has_place s xs || is_for s p
has_snoc s [] p = or_false (is_for s p)
has_snoc s (q ∷ xs) p = go (is_for s q) (has_snoc s xs p)
  where
    go : (b : Bool) → has_place s (xs ++ p ∷ []) ≡ has_place s xs || is_for s p → b || has_place s (xs ++ p ∷ []) ≡ (b || has_place s xs) || is_for s p
    go true e = refl
    go false e = e

module _ (ps : List Place) (i : ℕ) (h : i < length ps) where
  pub has_next : (s : ℕ) → has_place s (take (i + 1) ps) ≡ has_place s (take i ps) || is_for s (get_or ps i free_place)
  has_next s = rw (add-one, take-suc ps i free_place h) (has_snoc s (take i ps) (get_or ps i free_place))

-- ---- one place of those that are there

pub none-at : (s i : ℕ) (ps : List Place) → has_place s ps ≡ false → is_for s (get_or ps i free_place) ≡ false
none-at s i [] e = is_for-free s free_place refl
none-at s zero (p ∷ ps) e = none-head s p ps e
none-at s (suc i) (p ∷ ps) e = none-at s i ps (none_tail s p ps e)

-- place i is among the first n
pub has_later : (s i n : ℕ) (ps : List Place) → i < n → is_for s (get_or ps i free_place) ≡ true → has_place s (take n ps) ≡ true
has_later s i n ps h e = go (has_place s (take n ps)) refl
  where
    go : (b : Bool) → has_place s (take n ps) ≡ b → has_place s (take n ps) ≡ true
    go true q = q
    go false q = clash (sym e ∙ rw (get_or-take n ps i free_place h) at (none-at s i (take n ps) q))

-- ---- the tests of one place

-- a place that is held is one of the eight
pub held-there : (xs : List ℕ) (i : ℕ) → (get_or (places_in xs) i free_place).held ≡ true → i < 8
held-there xs i u =
    by-test (ltb i 8)
    (λ q. ltb-true i 8 q)
    (λ q. clash (sym u ∙ ap (λ (p : Place). p.held) (at_none xs i (ltb-false i 8 q))))

-- B7 asks less than the stricter test
pub plain-sound : (ps : List Place) (p : Place) → (not p.held || plain_beside ps p) ≡ true → true ≡ (not p.held || sound_beside ps p)
plain-sound ps p e = by-test p.held (λ u. rw (u, and_right (leb p.len 72) (sound_beside ps p) (rw u at e))) (λ u. rw u)
