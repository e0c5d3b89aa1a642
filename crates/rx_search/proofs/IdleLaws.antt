-- Laws of places that are all free: their first bytes are zeros, and a search among them finds nothing.
-- Assumes nothing.
use mathlib.Core.Path.{◌≡◌, refl, sym, ap, ◌∙◌}
use mathlib.Core.Bool.{false}
use mathlib.Core.List.{List}
use Prim.Native.Nat.{ℕ, zero, suc, ◌+◌, ◌*◌, ◌≤◌, ◌<◌}
use native.Mathlib.Numerals.{add-one}
use native.Mathlib.Omega.{arith}
use lib.Bits.{bit_or, or_add_and, and_le_l, and_le_r}
use lib.Dec.{ltb}
use lib.ListN.{length, get_or}
use lib.Seq.{take_all}
use borrow.Author.Tests.{eq-eqb, ltb-true, ltb-false}
use Rattle.std.specs.Prelude.{Ok}
use Rattle.buffer.proofs.Choice.{by-test}
use Rattle.rx_place_spec.specs.declared.Place.{Place}
use Rattle.rx_place_spec.specs.Place.{free_place}
use Rattle.rx_place_spec.specs.PlaceBytes.{places_in}
use Rattle.rx_place_spec.proofs.ByteLaws.{at_none, held_at}
use Rattle.rx_spec.proofs.PlaceLaws.{is_for-free}
use Rattle.rx_search.specs.Search.{any_due, looked, looked_up}
use Rattle.rx_search.proofs.SearchLaws.{Passed, turn, due_none, looked-done}

-- the first bytes of the first i places are zeros
abbrev pub ZeroTo : ℕ → List ℕ → Type 0
ZeroTo i xs = (k : ℕ) → k < i → get_or xs (8 * k) 0 ≡ 0

-- where two numbers have no bit, neither has one
neither : (a b : ℕ) → bit_or a b ≡ 0 → (a ≡ 0) × (b ≡ 0)
neither a b e =
    let s = or_add_and a b in
    let l = and_le_l a b in
    let r = and_le_r a b in
    (omega arith, omega arith)

-- the first byte of place i is looked at too
pub zero_next : (xs : List ℕ) (i held : ℕ) → (held ≡ 0 → ZeroTo i xs) → bit_or held (get_or xs (8 * i) 0) ≡ 0 → ZeroTo (i + 1) xs
zero_next xs i held inv e k h =
    let n = neither held (get_or xs (8 * i) 0) e in
    by-test (ltb k i) (λ q. inv n.0 k (ltb-true k i q)) (λ q. let same : k ≡ i = let g = ltb-false k i q in omega arith in rw same n.1)

-- a place whose first byte is 0 is free, and so is one that is not there
pub all-free : (xs : List ℕ) → ZeroTo 8 xs → (i : ℕ) → (get_or (places_in xs) i free_place).held ≡ false
all-free xs z i =
    by-test (ltb i 8)
    (λ q. let h = ltb-true i 8 q in rw (held_at xs i h, eq-eqb (get_or xs (8 * i) 0) 0 (z i h)))
    (λ q. ap (λ (p : Place). p.held) (at_none xs i (ltb-false i 8 q)))

module _ (s : ℕ) (ps : List Place) (l : length ps ≡ 8) (free : (i : ℕ) → (get_or ps i free_place).held ≡ false) where
  passes-free : (i : ℕ) → i ≤ 8 → Passed s ps i 8
  passes-free zero h = (omega arith, omega arith, tt, refl)
  passes-free (suc i) h =
      let p = passes-free i (omega arith) in
      rw (sym (add-one i)) (turn s ps i l (omega arith) 8 8 p (rw (free i)) (rw (is_for-free s (get_or ps i free_place) (free i))))

  pub none_found : (now : ℕ) → Ok (looked 8 false) ≡ looked_up s now ps
  none_found now =
      looked-done s now ps 8 8 false l (omega arith) (passes-free 8 (omega arith)) (sym (ap (any_due now) (take_all 8 ps (omega arith)) ∙ due_none now ps free))
