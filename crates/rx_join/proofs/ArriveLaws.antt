-- Laws of what the search found: the caller's errors from B7 on, and the place of a source after what is due is
-- dropped.
-- Assumes nothing.
use Prim.Native.Nat.{ℕ, suc, ◌≤◌, ◌<◌}
use mathlib.Core.Path.{◌≡◌, refl, sym, ap, ◌∙◌}
use mathlib.Core.Bool.{Bool, true, false, cond}
use mathlib.Core.List.{List, [], ◌∷◌}
use lib.Dec.{ltb}
use lib.ListN.{length, get_or}
use borrow.Author.Tests.{ltb-true, ltb-false}
use Rattle.buffer.proofs.Choice.{clash, by-test}
use Rattle.rx_place_spec.specs.declared.Place.{Place}
use Rattle.rx_place_spec.specs.Place.{free_place}
use Rattle.rx_place_spec.specs.Ticks.{is_due, drop_due}
use Rattle.rx_spec.specs.Reception.{is_for, place_of, sound}
use Rattle.rx_place_spec.specs.PlaceBytes.{places_in, state_in, renewed}
use Rattle.rx_spec.proofs.PlaceLaws.{is_for-held, is_for-source, is_for-free, Good, sound-good, place_out}
use Rattle.rx_place_spec.proofs.ByteLaws.{places-length}
use Rattle.rx_spec.proofs.DropLaws.{by-due, after-not, none-due, length-due}
use Rattle.call_error.specs.CallErrors.{or_else, Checked}
use Rattle.call_error.specs.declared.CallError.TheVariants.{B7BadReceptionState}
use Rattle.rx_join_spec.specs.StateCheck.{state_check}
use Rattle.rx_search.specs.declared.Looked.{Looked}
use Rattle.rx_search.specs.declared.Unsound.{Unsound}
use Rattle.rx_search.specs.Search.{there, any_due, looked, looked_up}
use Rattle.std.specs.Prelude.{Ok, Err, Some, None}

-- nothing is due, and nothing is dropped
none_dropped : (now : ℕ) (ps : List Place) → any_due now ps ≡ false → drop_due now ps ≡ ps
unfolding drop_due
none_dropped now [] e = refl
none_dropped now (p ∷ ps) e = go (is_due now p) refl (none_dropped now ps)
  where
    go : (b : Bool) → is_due now p ≡ b → (any_due now ps ≡ false → drop_due now ps ≡ ps) → drop_due now (p ∷ ps) ≡ p ∷ ps
    go true q ih = clash (rw q at e)
    go false q ih = rw q (ap (λ (qs : List Place). p ∷ qs) (ih (rw q at e)))

-- the place of s stays the place of s, unless it is freed
place_after : (now s : ℕ) (ps : List Place) → Good ps →
    place_of s (drop_due now ps) ≡ cond (get_or (drop_due now ps) (place_of s ps) free_place).held (place_of s ps) (length ps)
unfolding drop_due
place_after now s [] g = refl
place_after now s (p ∷ ps) g = go (is_for s p) refl (place_after now s ps g.1)
  where
    rest : is_for s p ≡ true → place_of s (drop_due now ps) ≡ length ps
    rest e = place_out s (drop_due now ps) (none-due now s ps (rw (is_for-source s p e) at (g.0 (is_for-held s p e)).alone)) ∙ length-due now ps

    later : (h : Bool) → suc (cond h (place_of s ps) (length ps)) ≡ cond h (suc (place_of s ps)) (suc (length ps))
    later true = refl
    later false = refl

    go : (b : Bool) → is_for s p ≡ b → place_of s (drop_due now ps) ≡ cond (get_or (drop_due now ps) (place_of s ps) free_place).held (place_of s ps) (length ps) →
        place_of s (drop_due now (p ∷ ps)) ≡ cond (get_or (drop_due now (p ∷ ps)) (place_of s (p ∷ ps)) free_place).held (place_of s (p ∷ ps)) (length (p ∷ ps))
    go true e ih =
        by-due now p
        (λ d q. rw (e, q, is_for-free s free_place refl) (ap suc (rest e)))
        (λ d q. rw (e, q, e, is_for-held s p e))
    go false e ih = rw (e, after-not now s p e, ih) (later (get_or (drop_due now ps) (place_of s ps) free_place).held)

-- ---- what the search found

module _ (s now : ℕ) (xs pool : List ℕ) where
  abbrev ps : List Place
  ps = places_in xs

  -- B7 refuses the places
  pub b7_refuses : {u : Unsound} (later : Checked) → Err u ≡ looked_up s now ps → or_else (state_check (state_in xs pool)) later ≡ Err B7BadReceptionState
  unfolding looked_up
  b7_refuses later e = by-test (sound ps) (λ q. absurd (let n = rw q at e in cc)) (λ q. rw q)

  module _ {l : Looked} (e : Ok l ≡ looked_up s now ps) where
    -- it lets them pass
    pub lets-pass : sound ps ≡ true
    unfolding looked_up
    lets-pass = by-test (sound ps) (λ q. q) (λ q. absurd (let n = rw q at e in cc))

    found-is : l ≡ looked (place_of s ps) (any_due now ps)
    unfolding looked_up
    found-is = let n = rw lets-pass at e in cc

    pub later-is : (later : Checked) → or_else (state_check (state_in xs pool)) later ≡ later
    later-is later = rw lets-pass

    -- the place that is found and what is left
    pub record Arrives (r : ℕ) (after : List ℕ) : Type 0 where
      pub found : r ≡ place_of s (drop_due now ps)
      pub places : places_in after ≡ drop_due now ps
      pub renewal : after ≡ renewed (drop_due now ps) xs

    pub arrived : {r : ℕ} {after : List ℕ} → r ≡ cond l.due (cond (get_or (places_in after) l.place free_place).held l.place 8) l.place →
        places_in after ≡ cond l.due (drop_due now ps) ps → after ≡ renewed (cond l.due (drop_due now ps) ps) xs → Arrives r after
    arrived f p b =
        let y : l.place ≡ place_of s ps = ap (λ (v : Looked). v.place) found-is in
        by-test l.due
        (λ d. let q : places_in _ ≡ drop_due now ps = rw d at p in
        let k = place_after now s ps (sound-good ps lets-pass) ∙ rw (places-length xs) in
        record {
          found = rw (d, q, y) at f ∙ sym k;
          places = q;
          renewal = rw d at b;
        })
        (λ d. let n : drop_due now ps ≡ ps = none_dropped now ps (ap (λ (v : Looked). v.due) (sym found-is) ∙ d) in
        record { found = rw d at f ∙ y ∙ rw n; places = rw d at p ∙ sym n; renewal = rw (d, ← n) at b })

pub there_some : (n : ℕ) {k : ℕ} → there n ≡ Some k → (k ≡ n) × (k < 8)
there_some n {k} e = by-test (ltb n 8) (λ q. let x : Some n ≡ Some k = rw q at e in let y : k ≡ n = cc in (y, rw y (ltb-true n 8 q))) (λ q. absurd (let x = rw q at e in cc))

pub there_none : (n : ℕ) → there n ≡ None → 8 ≤ n
there_none n e = by-test (ltb n 8) (λ q. absurd (let x = rw q at e in cc)) (λ q. ltb-false n 8 q)
