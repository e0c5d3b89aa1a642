-- Laws of a place that is read byte by byte: a place that is not there reads as free.
-- Assumes nothing.
use mathlib.Core.Path.{◌≡◌, ap}
use mathlib.Core.Bool.{cond, not}
use mathlib.Core.List.{List}
use Prim.Native.Nat.{ℕ, ◌+◌, ◌*◌}
use native.Mathlib.Nat.{add-zero}
use lib.Dec.{ltb, eqb}
use lib.ListN.{get_or}
use borrow.Author.Tests.{ltb-true, ltb-false}
use Rattle.buffer.proofs.Choice.{by-test}
use Rattle.rx_place_spec.specs.declared.Place.{Place}
use Rattle.rx_place_spec.specs.Place.{free_place}
use Rattle.rx_place_spec.specs.PlaceBytes.{places_in}
use Rattle.rx_place_spec.proofs.ByteLaws.{at_none, held_at, len-at, source-at, tick-at, swallowing-at}

module _ (xs : List ℕ) (i : ℕ) where
  -- byte k of place i
  abbrev pub byte_of : ℕ → ℕ
  byte_of k = cond (ltb i 8) (get_or xs (8 * i + k) 0) 0

  pub held-is : (get_or (places_in xs) i free_place).held ≡ not (eqb (byte_of 0) 0)
  held-is =
      by-test (ltb i 8)
      (λ q. rw (q, add-zero) (held_at xs i (ltb-true i 8 q)))
      (λ q. rw q (ap (λ (p : Place). p.held) (at_none xs i (ltb-false i 8 q))))

  pub len_is : (get_or (places_in xs) i free_place).len ≡ byte_of 1
  len_is =
      by-test (ltb i 8)
      (λ q. rw q (len-at xs i (ltb-true i 8 q)))
      (λ q. rw q (ap (λ (p : Place). p.len) (at_none xs i (ltb-false i 8 q))))

  pub source_is : (get_or (places_in xs) i free_place).source ≡ byte_of 2 + byte_of 3 * 256
  source_is =
      by-test (ltb i 8)
      (λ q. rw q (source-at xs i (ltb-true i 8 q)))
      (λ q. rw q (ap (λ (p : Place). p.source) (at_none xs i (ltb-false i 8 q))))

  pub tick_is : (get_or (places_in xs) i free_place).tick ≡ byte_of 4 + byte_of 5 * 256
  tick_is =
      by-test (ltb i 8)
      (λ q. rw q (tick-at xs i (ltb-true i 8 q)))
      (λ q. rw q (ap (λ (p : Place). p.tick) (at_none xs i (ltb-false i 8 q))))

  pub swallowing-is : (get_or (places_in xs) i free_place).swallowing ≡ not (eqb (byte_of 6) 0)
  swallowing-is =
      by-test (ltb i 8)
      (λ q. rw q (swallowing-at xs i (ltb-true i 8 q)))
      (λ q. rw q (ap (λ (p : Place). p.swallowing) (at_none xs i (ltb-false i 8 q))))
