-- Laws of the tick call.
-- Assumes nothing.
use Prim.Native.Nat.{ℕ}
use mathlib.Core.Path.{◌≡◌, refl}
use mathlib.Core.Bool.{true, false}
use mathlib.Core.List.{List}
use Rattle.std.specs.Prelude.{Ok, Err}
use Rattle.call_error.specs.declared.CallError.TheVariants.{B7BadReceptionState}
use Rattle.rx_place_spec.specs.Ticks.{drop_due}
use Rattle.rx_spec.specs.Reception.{sound}
use Rattle.rx_spec.specs.Order.{handle_tick}
use Rattle.rx_place_spec.specs.PlaceBytes.{places_in, renewed, state_in}
use Rattle.rx_place_spec.proofs.ByteLaws.{renewed-same}
use Rattle.exec_spec.specs.Handling.{Contents}
use Rattle.node_spec.specs.CallerErrors.{tick_check}
use Rattle.node_spec.specs.TickCall.{tick_call, tick_answer, TickEnds}

module _ (now : ℕ) (xs pool : List ℕ) (c : Contents) where
  pub tick-refused : sound (places_in xs) ≡ false → TickEnds (tick_call now (state_in xs pool) c) (tick_answer (Err B7BadReceptionState)) xs xs pool c
  unfolding handle_tick tick_call tick_check
  tick-refused e = rw e (record { answer = refl; keeps = record { places = refl; renewal = renewed-same xs; pool = refl }; contents = refl })

  pub tick-heard : sound (places_in xs) ≡ true → {after : List ℕ} → places_in after ≡ drop_due now (places_in xs) → after ≡ renewed (drop_due now (places_in xs)) xs →
      TickEnds (tick_call now (state_in xs pool) c) (tick_answer (Ok tt)) xs after pool c
  unfolding handle_tick tick_call tick_check
  tick-heard e p r = rw e (record { answer = refl; keeps = record { places = p; renewal = r; pool = refl }; contents = refl })
