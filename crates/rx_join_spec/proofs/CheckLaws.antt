-- What `join` owes by the first error of the caller that applies.
-- Assumes nothing.
use mathlib.Core.Path.{◌≡◌, refl, sym, ap, ◌∙◌}
use mathlib.Core.Bool.{true, false}
use mathlib.Core.List.{List}
use Prim.Native.Nat.{ℕ}
use Rattle.buffer.proofs.Choice.{by-test, clash}
use Rattle.call_error.specs.CallErrors.{OrError, or_else, Checked}
use Rattle.call_error.specs.declared.CallError.{CallError}
use Rattle.call_error.specs.declared.CallError.TheVariants.{B7BadReceptionState}
use Rattle.call_error.proofs.Laws.{bad}
use Rattle.rx_place_spec.specs.State.{State}
use Rattle.rx_place_spec.specs.PlaceBytes.{places_in, renewed}
use Rattle.rx_spec.specs.Reception.{sound, Joined}
use Rattle.rx_join_spec.specs.declared.Outcome.{Outcome}
use Rattle.rx_join_spec.specs.StateCheck.{state_check}
use Rattle.rx_join_spec.specs.Joins.{brings, event_of, InsidePool, Joins, JoinEnds}
use Rattle.std.specs.Prelude.{Ok, Err, IsOkAnd, is_ok}

-- ---- B7, and what comes after it

same-error : {a b : CallError} → ◌≡◌ {A = Checked} (Err a) (Err b) → a ≡ b
same-error e = cc

module _ (st : State) where
  pub sound-passes : sound st.places ≡ true → state_check st ≡ Ok tt
  sound-passes e = rw e

  pub unsound-fails : sound st.places ≡ false → state_check st ≡ Err B7BadReceptionState
  unsound-fails e = rw e

  pub passed-sound : state_check st ≡ Ok tt → sound st.places ≡ true
  passed-sound q = by-test (sound st.places) (λ e. e) (λ e. absurd (bad refl (sym (unsound-fails e) ∙ q)))

  -- the second passes, so an error is B7
  pub only-b7 : {error : CallError} → or_else (state_check st) (Ok tt) ≡ Err error → error ≡ B7BadReceptionState
  only-b7 q =
      by-test (sound st.places)
      (λ e. absurd (bad refl (sym q ∙ rw (sound-passes e))))
      (λ e. same-error (sym q ∙ rw (unsound-fails e)))

-- ---- what `join` owes

module _ {j : Joined} {d : List ℕ} {checked : Checked} where
  pub refused_ends : {error : CallError} {xs pool : List ℕ} → checked ≡ Err error → JoinEnds checked j d (Err error) xs xs pool pool
  refused_ends e =
      record {
        refuses = λ x q. record { result = ap Err (same-error (sym e ∙ q)); places-stay = refl; pool-stays = refl };
        joins = λ q. absurd (bad refl (sym e ∙ q));
      }

  pub joined-ends : {o : Outcome} {xs after pool bytes : List ℕ} → checked ≡ Ok tt → Joins j d o xs after bytes → JoinEnds checked j d (Ok o) xs after pool bytes
  joined-ends e g = record { refuses = λ x q. absurd (bad refl (sym q ∙ e)); joins = λ q. g }

  -- a finished datagram in the pool lies inside it
  pub ends-inside : {done : Outcome} {xs after pool bytes : List ℕ} → JoinEnds checked j d (Ok done) xs after pool bytes → InsidePool done
  ends-inside {done} n = go checked refl
    where
      go : (c : Checked) → checked ≡ c → InsidePool done
      go (Ok u) e = (n.joins e).inside
      go (Err error) e = clash (ap is_ok (n.refuses error e).result)

-- what was joined, and what it brings about
pub record Done (j : Joined) (d : List ℕ) (o : OrError Outcome) (before after bytes : List ℕ) : Type 0 where
  pub places : places_in after ≡ j.state.places
  pub renewal : after ≡ renewed j.state.places before
  pub pool : bytes ≡ j.state.pool
  pub event : event_of o d bytes ≡ brings j.event

pub joined-done : (j : Joined) (d : List ℕ) (o : OrError Outcome) (xs after bytes : List ℕ) → IsOkAnd o (λ done. Joins j d done xs after bytes) → Done j d o xs after bytes
joined-done j d (Ok done) xs after bytes n = record { places = n.places; renewal = n.renewal; pool = n.pool; event = ap brings n.event }
joined-done j d (Err error) xs after bytes n = absurd n
