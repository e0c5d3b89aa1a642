-- Laws of the bytes of places that are dropped and then changed again by a frame at the same tick.
-- Assumes nothing.
use Prim.Native.Nat.{ℕ, zero, suc}
use mathlib.Core.Path.{◌≡◌, refl, sym, ap, ◌∙◌}
use mathlib.Core.Logic.{inl, inr}
use mathlib.Core.Bool.{Bool, true, false}
use mathlib.Core.List.{List, [], ◌∷◌}
use native.Mathlib.Omega.{arith}
use lib.ListN.{drop}
use Rattle.buffer.proofs.Choice.{clash}
use Rattle.rx_place_spec.specs.declared.Place.{Place}
use Rattle.rx_place_spec.specs.Place.{free_place}
use Rattle.rx_place_spec.specs.Ticks.{is_due, drop_due}
use Rattle.rx_place_spec.specs.PlaceBytes.{place_in, places_from, places_in, same_place, renewed}
use Rattle.rx_place_spec.proofs.ByteLaws.{same_refl, NotBack, Covers, renewed-twice, covers_where, differ-held, differ-tick}
use Rattle.rx_spec.proofs.TurnedLaws.{Turned, AllTurned}
use Rattle.rx_spec.proofs.DropLaws.{due_held, due_age, by-due}

module _ (now s : ℕ) (accepted : Bool) where
  -- a place that was due is not what it was: it is free, or has a tick that was not due
  turned_else : (x p : Place) → is_due now x ≡ true → Turned now s accepted free_place p → same_place x p ≡ false
  turned_else x p d (inl (k, n)) = differ-held x p true (due_held now x d) k.held
  turned_else x p d (inr (inl e)) = differ-held x p true (due_held now x d) e
  turned_else x p d (inr (inr (e, v, a))) =
      differ-tick x p (λ q. let m : x.tick ≡ now = q ∙ e in omega (arith, due_age now x d, m))

  not-back_at : (x p q : Place) → q ≡ free_place → is_due now x ≡ true → Turned now s accepted q p → same_place x p ≡ false
  not-back_at x p q e d t = turned_else x p d (rw e at t)

  from-not-back : (n : ℕ) (xs : List ℕ) (ps : List Place) → AllTurned now s accepted (drop_due now (places_from n xs)) ps → NotBack xs (drop_due now (places_from n xs)) ps
  unfolding drop_due
  from-not-back zero xs [] t = tt
  from-not-back zero xs (p ∷ ps) t = absurd t
  from-not-back (suc n) xs [] t = absurd t
  from-not-back (suc n) xs (p ∷ ps) t = (
    λ e. by-due now (place_in xs) (λ d q. not-back_at (place_in xs) p _ q d t.0) (λ d q. clash (sym (same_refl (place_in xs)) ∙ rw q at e)),
    from-not-back n (drop 8 xs) ps t.1,
  )

  not_back : (xs : List ℕ) (ps : List Place) → AllTurned now s accepted (drop_due now (places_in xs)) ps → NotBack xs (drop_due now (places_in xs)) ps
  unfolding places_in
  not_back xs ps t = from-not-back 8 xs ps t

-- ---- two steps

-- no datagram is due where there are no bytes
pub none_at_all : (now n : ℕ) → drop_due now (places_from n []) ≡ places_from n []
unfolding drop_due is_due
none_at_all now zero = refl
none_at_all now (suc n) = ap (λ (ps : List Place). place_in [] ∷ ps) (none_at_all now n)

from-covers : (now n : ℕ) (xs : List ℕ) → Covers xs (drop_due now (places_from n xs))
unfolding drop_due
from-covers now zero xs = tt
from-covers now (suc n) xs = (covers_where (drop_due now) (none_at_all now) n xs, from-covers now n (drop 8 xs))

-- the bytes after a drop and a frame at the same tick, by the places alone
pub renewed-after : (now s : ℕ) (accepted : Bool) (xs : List ℕ) (ps : List Place) → AllTurned now s accepted (drop_due now (places_in xs)) ps →
    renewed ps (renewed (drop_due now (places_in xs)) xs) ≡ renewed ps xs
unfolding places_in
renewed-after now s accepted xs ps t = renewed-twice xs (drop_due now (places_in xs)) ps (from-covers now 8 xs) (not_back now s accepted xs ps t)
