-- Laws of the ticks in the places: what a frame of s at the tick `now`, accepted or not, may do to each of them.
-- Assumes nothing.
use Prim.Native.Nat.{ℕ, zero, suc}
use mathlib.Core.Path.{◌≡◌, refl, sym, ◌∙◌}
use mathlib.Core.Logic.{◌⊎◌, inl}
use mathlib.Core.Bool.{Bool, true, false}
use mathlib.Core.List.{List, [], ◌∷◌}
use lib.ListN.{take, drop, get_or, set}
use Rattle.buffer.proofs.Choice.{clash}
use Rattle.rx_place_spec.specs.declared.Place.{Place}
use Rattle.rx_place_spec.specs.Place.{free_place}
use Rattle.rx_spec.specs.Reception.{is_for, has_place}
use Rattle.rx_spec.proofs.PlaceLaws.{none-head, none_tail}

-- what a place may become: free, or one of s with this tick, where the frame is accepted
abbrev pub New : ℕ → ℕ → Bool → Place → Type 0
New now s accepted p = (p.held ≡ false) ⊎ ((p.tick ≡ now) × (p.source ≡ s) × (accepted ≡ true))

-- p is held where q is, for the same source with the same tick, though that source may be swallowed from now on
pub record Kept (q p : Place) : Type 0 where
  pub held : p.held ≡ q.held
  pub source : p.source ≡ q.source
  pub tick : p.tick ≡ q.tick

-- the place q is kept as p, and is not of s where the frame is accepted; or it is new
abbrev pub Turned : ℕ → ℕ → Bool → Place → Place → Type 0
Turned now s accepted q p = (Kept q p × (is_for s q ≡ true → accepted ≡ false)) ⊎ New now s accepted p

-- the same of each place
abbrev pub AllTurned : ℕ → ℕ → Bool → List Place → List Place → Type 0
AllTurned now s accepted [] [] = Unit {0}
AllTurned now s accepted [] (p ∷ ps) = ⊥
AllTurned now s accepted (q ∷ qs) [] = ⊥
AllTurned now s accepted (q ∷ qs) (p ∷ ps) = Turned now s accepted q p × AllTurned now s accepted qs ps

module _ (now s : ℕ) (accepted : Bool) where
  -- no place changes: s has none, or the frame is not accepted
  pub same-turned : (ps : List Place) → (has_place s ps ≡ true → accepted ≡ false) → AllTurned now s accepted ps ps
  same-turned [] h = tt
  same-turned (p ∷ ps) h = (inl (record { held = refl; source = refl; tick = refl }, λ u. h (rw u)), same-turned ps (λ u. h (go (is_for s p) refl u)))
    where
      go : (b : Bool) → is_for s p ≡ b → has_place s ps ≡ true → has_place s (p ∷ ps) ≡ true
      go true e u = rw e
      go false e u = rw (e, u)

  -- place i becomes p, and no other is of s
  pub set-turned : (i : ℕ) (p : Place) (ps : List Place) → has_place s (take i ps) ≡ false → has_place s (drop (suc i) ps) ≡ false →
      Turned now s accepted (get_or ps i free_place) p → AllTurned now s accepted ps (set ps i p)
  set-turned i p [] a b n = tt
  set-turned zero p (q ∷ ps) a b n = (n, same-turned ps (λ u. clash (sym u ∙ b)))
  set-turned (suc i) p (q ∷ ps) a b n =
      (inl (record { held = refl; source = refl; tick = refl }, λ u. clash (sym u ∙ none-head s q (take i ps) a)), set-turned i p ps (none_tail s q (take i ps) a) b n)
