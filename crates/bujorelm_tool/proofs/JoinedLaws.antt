-- The bytes of what came of joining a frame stand for it: where the call is refused, that is because of B7.
-- Assumes nothing.
use Prim.Native.Nat.{ℕ}
use mathlib.Core.Path.{◌≡◌, refl, sym, ap, subst, ◌∙◌}
use mathlib.Core.List.{List}
use Rattle.buffer.specs.LittleEndian.{number_in}
use Rattle.buffer.proofs.LeastLaws.{two_back, eight-back}
use Rattle.can_frame.specs.declared.TransportRefusal.TheVariants.{TemporaryError, BufferUnavailable, OutOfOrder}
use Rattle.call_error.specs.CallErrors.{OrError, or_else, Checked}
use Rattle.call_error.specs.declared.CallError.TheVariants.{B7BadReceptionState}
use Rattle.rx_place_spec.specs.State.{State}
use Rattle.rx_spec.specs.Reception.{Joined}
use Rattle.rx_join_spec.specs.declared.Outcome.{Outcome}
use Rattle.rx_join_spec.specs.declared.Outcome.TheVariants as outcome
use Rattle.rx_join_spec.specs.StateCheck.{state_check}
use Rattle.rx_join_spec.specs.Joins.{JoinEnds}
use Rattle.rx_join_spec.proofs.CheckLaws.{only-b7}
use Rattle.bujorelm_tool.specs.Joining.{joined_of, outcome_is}
use Rattle.std.specs.Prelude.{Ok, Err, IsOkAnd}

-- ---- no error but B7

abbrev OnlyB7 : OrError Outcome → Type 0
OnlyB7 (Err error) = error ≡ B7BadReceptionState
OnlyB7 (Ok done) = Unit {0}

outcome-back : (o : OrError Outcome) → OnlyB7 o → outcome_is (joined_of o) ≡ o
unfolding number_in
outcome-back (Err error) b = ap Err (sym b)
outcome-back (Ok outcome.Ignored) b = refl
outcome-back (Ok outcome.NoAnswer) b = refl
outcome-back (Ok (outcome.TransportRefusal TemporaryError)) b = refl
outcome-back (Ok (outcome.TransportRefusal BufferUnavailable)) b = refl
outcome-back (Ok (outcome.TransportRefusal OutOfOrder)) b = refl
outcome-back (Ok outcome.InFrame) b = refl
outcome-back (Ok (outcome.InPool from end)) b = rw (eight-back from, eight-back end)

-- a frame that is joined is not refused
joined-passes : (o : OrError Outcome) (P : Outcome → Type 0) → IsOkAnd o P → OnlyB7 o
joined-passes (Ok done) P n = tt
joined-passes (Err error) P n = absurd n

nothing-later : (c : Checked) → or_else c (Ok tt) ≡ c
nothing-later (Ok u) = refl
nothing-later (Err error) = refl

module _ (st : State) (j : Joined) {d : List ℕ} {o : OrError Outcome} {before after pool bytes : List ℕ}
    (ends : JoinEnds (or_else (state_check st) (Ok tt)) j d o before after pool bytes) where
  refused_b7 : OnlyB7 o
  refused_b7 = go (or_else (state_check st) (Ok tt)) refl
    where
      go : (c : Checked) → or_else (state_check st) (Ok tt) ≡ c → OnlyB7 o
      go (Ok u) e = joined-passes o _ (ends.joins e)
      go (Err error) e = rw (ends.refuses error e).result (only-b7 st e)

  pub outcome-stored : {joined : List ℕ} → joined ≡ joined_of o →
      (JoinEnds (state_check st) j d (outcome_is joined) before after pool bytes) × (outcome_is joined ≡ o)
  outcome-stored {joined} p =
      let b : outcome_is joined ≡ o = ap outcome_is p ∙ outcome-back o refused_b7 in
      (rw b (subst (λ (c : Checked). JoinEnds c j d o before after pool bytes) (nothing-later (state_check st)) ends), b)
