-- The wrapping age is the true age. The invariant: each place that is held keeps the tick of the time at which its source's last frame was
-- accepted, and is not more than 3,000 ticks old after a call.
-- Assumes nothing.
use Prim.Native.Nat.{ℕ, ◌+◌}
use mathlib.Core.Path.{◌≡◌, refl, sym, ap, ◌∙◌, subst}
use mathlib.Core.Bool.{Bool, true, false, cond, ◌&&◌}
use mathlib.Core.List.{List, [], ◌∷◌, ◌++◌}
use native.Mathlib.Omega.{arith}
use lib.Dec.{eqb}
use borrow.Author.Tests.{eqb-true, eq-eqb}
use Rattle.buffer.specs.Buffer.{Each}
use Rattle.buffer.proofs.Choice.{by-test}
use Rattle.can_frame.specs.Frame.{CanFrame, source_of}
use Rattle.rx_place_spec.specs.declared.Place.{Place}
use Rattle.rx_place_spec.specs.Ticks.{tick_at, age}
use Rattle.rx_spec.specs.Times.{Input, frame_input, lone_tick, Timed, Follows, TimelyAfter, Timely, moment, InTimeAfter, InTime, is_accepted}
use Rattle.rx_place_spec.specs.State.{State}
use Rattle.rx_spec.specs.Reception.{sound, has_place, unfinished_for, at_tick}
use Rattle.rx_spec.specs.Order.{FrameResult, answer_event, handle_input, run_calls, Fresh, times_of, is_caller_error, accepts_frame, Unrefused}
use Rattle.rx_source_spec.specs.Aging.{accepts_from, last_from, moments_to, TrueAges, EachAccepted}
use Rattle.rx_spec.proofs.PlaceLaws.{sound-good, unfinished-is, blank_none}
use Rattle.rx_spec.proofs.StepLaws.{Sized}
use Rattle.rx_spec.proofs.DropLaws.{AllDated, none-dated, caught_up, sized_due, age-is, dated-due, all-dated}
use Rattle.rx_spec.proofs.InputLaws.{fresh-sized, taken, input-is, frame_step, accepted-is, answered-state}

module _ {C H W A : Type 0} (heard : C → Timed) (handle : W → List ℕ → A × W) (alias : ℕ) (one : State → W → C → FrameResult H W A)
    (same : (st : State) (w : W) (c : C) → is_caller_error (one st w c).answer ≡ false →
    (sound st.places ≡ true) × (one st w c ≡ handle_input handle alias st w (heard c).time (heard c).input)) where
  -- ---- one call

  -- what a call leaves, by the times at which each source's last frame was accepted
  pub record Left (P : ℕ → Type 0) (last : ℕ → ℕ) (t : ℕ) (st : State) : Type 0 where
    pub sized : Sized st
    pub dated : AllDated P last t st.places

  -- the times after a call at t that brings i and is answered as r says
  abbrev pub later : (ℕ → ℕ) → ℕ → Input → FrameResult H W A → ℕ → ℕ
  later last t i r s = cond (accepts_from s i r.answer) t (last s)

  module _ (P : ℕ → Type 0) (last : ℕ → ℕ) (now t : ℕ) (st : State) (w : W) (follows : Follows now t) (ok : sound st.places ≡ true)
      (before : Left P last now st) where
    -- the call, answered
    abbrev answered : Input → FrameResult H W A
    answered i = answer_event handle (taken alias (tick_at t) st i).state w (taken alias (tick_at t) st i).event

    after-drop : AllDated P last t (at_tick (tick_at t) st).places
    after-drop = dated-due P last now t follows st.places before.dated

    -- a frame
    module _ (f : CanFrame) (accepted-back : accepts_frame (frame_input f) (answered (frame_input f)).answer ≡ true → P t) where
      abbrev s : ℕ
      s = source_of f.header

      abbrev accepted : Bool
      accepted = is_accepted (taken alias (tick_at t) st (frame_input f)).event

      by_answer : accepts_frame (frame_input f) (answered (frame_input f)).answer ≡ accepted
      by_answer = accepted-is H handle (taken alias (tick_at t) st (frame_input f)).state w f (taken alias (tick_at t) st (frame_input f)).event

      own : accepted ≡ true → (later last t (frame_input f) (answered (frame_input f)) s ≡ t) × P t
      own e =
          let y : accepts_from s (frame_input f) (answered (frame_input f)).answer ≡ true =
          ap (λ (b : Bool). b && accepts_frame (frame_input f) (answered (frame_input f)).answer) (eq-eqb s s refl) ∙ by_answer ∙ e in
          (rw y, accepted-back (by_answer ∙ e))

      else : (x : ℕ) → (s ≡ x → accepted ≡ false) → later last t (frame_input f) (answered (frame_input f)) x ≡ last x
      else x n =
          let y : accepts_from x (frame_input f) (answered (frame_input f)).answer ≡ false =
          by-test (eqb s x)
          (λ q. ap (λ (b : Bool). b && accepts_frame (frame_input f) (answered (frame_input f)).answer) q ∙ by_answer ∙ n (eqb-true s x q))
          (λ q. ap (λ (b : Bool). b && accepts_frame (frame_input f) (answered (frame_input f)).answer) q) in
          rw y

      frame-left : Left P (later last t (frame_input f) (answered (frame_input f))) t (taken alias (tick_at t) st (frame_input f)).state
      frame-left =
          let step = frame_step alias (tick_at t) f st (sound-good st.places ok) before.sized in
          record { sized = step.sized; dated = all-dated P last _ t s accepted own else (at_tick (tick_at t) st).places (taken alias (tick_at t) st (frame_input f)).state.places after-drop step.turned }

    input-left : (i : Input) → (accepts_frame i (answered i).answer ≡ true → P t) → Left P (later last t i (answered i)) t (answered i).state
    input-left (frame_input f) a =
        subst (λ (x : State). Left P (later last t (frame_input f) (answered (frame_input f))) t x)
        (sym (answered-state H handle (taken alias (tick_at t) st (frame_input f)).state w (taken alias (tick_at t) st (frame_input f)).event)) (frame-left f a)
    input-left lone_tick a = record { sized = sized_due (tick_at t) st before.sized; dated = after-drop }

    pub call-left : (c : C) → (heard c).time ≡ t → is_caller_error (one st w c).answer ≡ false → (accepts_frame (heard c).input (one st w c).answer ≡ true → P t) →
        Left P (later last t (heard c).input (one st w c)) t (one st w c).state
    call-left c e h a =
        let q : answered (heard c).input ≡ one st w c =
        sym ((same st w c h).1 ∙ ap (λ (x : ℕ). handle_input handle alias st w x (heard c).input) e ∙ input-is H handle alias st w t (heard c).input) in
        subst (λ (r : FrameResult H W A). (accepts_frame (heard c).input r.answer ≡ true → P t) → Left P (later last t (heard c).input r) t r.state) q
        (input-left (heard c).input) a

  -- ---- the list of calls

  -- a state at a time `now` with fewer than 62,000 ticks to go to the time t
  pub record Ready (P : ℕ → Type 0) (last : ℕ → ℕ) (t : ℕ) (st : State) : Type 0 where
    pub now : ℕ
    pub follows : Follows now t
    pub left : Left P last now st

  -- where no place is held, so it is at any time
  none_left : (P : ℕ → Type 0) (last : ℕ → ℕ) (now t : ℕ) (st : State) → ((s : ℕ) → has_place s st.places ≡ false) → Left P last now st → Left P last t st
  none_left P last now t st n l = record { sized = l.sized; dated = none-dated P last t st.places n }

  -- the moments from a call on that is not refused
  moments_from : (t : ℕ) (c : C) (cs : List C) (st : State) (w : W) → is_caller_error (one st w c).answer ≡ false →
      moments_to t heard one st w (c ∷ cs) ≡ moment (heard c).time (unfinished_for st) ∷ moments_to t heard one (one st w c).state (one st w c).world cs
  moments_from t c cs st w e = rw e

  all : (P : ℕ → Type 0) (t : ℕ) (cs : List C) (now : ℕ) (last : ℕ → ℕ) (st : State) (w : W) → Left P last now st →
      InTimeAfter now (moments_to t heard one st w cs) → Unrefused one st w cs → EachAccepted P heard one st w cs →
      Ready P (λ s. last_from heard one s (last s) st w cs) t (run_calls one st w cs).state
  all P t [] now last st w l k u a =
      caught_up now t (unfinished_for st) st.places (λ s. unfinished-is s st.places st.pool) k.0
      (λ f. record { now = now; follows = f; left = l })
      (λ f n. record { now = t; follows = f; left = none_left P last now t st n l })
  all P t (c ∷ cs) now last st w l k u a =
      let x : Timed = heard c in
      let ok : sound st.places ≡ true = (same st w c u.0).0 in
      let m = subst (InTimeAfter now) (moments_from t c cs st w u.0) k in
      all P t cs x.time (later last x.time x.input (one st w c)) (one st w c).state (one st w c).world
      (caught_up now x.time (unfinished_for st) st.places (λ s. unfinished-is s st.places st.pool) m.0
      (λ f. call-left P last now x.time st w f ok l c refl u.0 a.0)
      (λ f n. call-left P last x.time x.time st w f ok (none_left P last now x.time st n l) c refl u.0 a.0))
      m.1 u.1 a.1

  -- at the start nothing is unfinished, at any time
  started : (P : ℕ → Type 0) (last : ℕ → ℕ) (now : ℕ) (st : State) → Fresh st → Left P last now st
  started P last now st start =
      record {
        sized = fresh-sized st start;
        dated = none-dated P last now st.places (λ s. blank_none s st.places st.pool (start.nothing-unfinished s));
      }

  in_time : (P : ℕ → Type 0) (st : State) (w : W) (cs : List C) (t : ℕ) → Fresh st → InTime (moments_to t heard one st w cs) → Unrefused one st w cs → EachAccepted P heard one st w cs →
      Ready P (λ s. last_from heard one s 0 st w cs) t (run_calls one st w cs).state
  in_time P st w [] t start k u a = all P t [] t (λ s. 0) st w (started P (λ s. 0) t st start) ((omega arith, λ s e. omega arith), tt) u a
  in_time P st w (c ∷ cs) t start k u a =
      all P t (c ∷ cs) (heard c).time (λ s. 0) st w (started P (λ s. 0) (heard c).time st start)
      (subst (InTimeAfter (heard c).time) (sym (moments_from t c cs st w u.0)) ((omega arith, λ s e. omega arith), subst InTime (moments_from t c cs st w u.0) k)) u a

  -- times that are timely are in time
  timely_after : (now t : ℕ) (cs : List C) (st : State) (w : W) → TimelyAfter now (times_of heard cs ++ t ∷ []) → Unrefused one st w cs → InTimeAfter now (moments_to t heard one st w cs)
  timely_after now t [] st w k u = ((k.0.0, λ s e. k.0.1), tt)
  timely_after now t (c ∷ cs) st w k u =
      subst (InTimeAfter now) (sym (moments_from t c cs st w u.0))
      ((k.0.0, λ s e. k.0.1), timely_after (heard c).time t cs (one st w c).state (one st w c).world k.1 u.1)

  timely_in_time : (t : ℕ) (cs : List C) (st : State) (w : W) → Timely (times_of heard cs ++ t ∷ []) → Unrefused one st w cs → InTime (moments_to t heard one st w cs)
  timely_in_time t [] st w k u = tt
  timely_in_time t (c ∷ cs) st w k u =
      subst InTime (sym (moments_from t c cs st w u.0)) (timely_after (heard c).time t cs (one st w c).state (one st w c).world k u.1)

  pub ready : (P : ℕ → Type 0) (st : State) (w : W) (cs : List C) (t : ℕ) → Fresh st → Timely (times_of heard cs ++ t ∷ []) → Unrefused one st w cs → EachAccepted P heard one st w cs →
      Ready P (λ s. last_from heard one s 0 st w cs) t (run_calls one st w cs).state
  ready P st w cs t start k u a = in_time P st w cs t start (timely_in_time t cs st w k u) u a

  -- ---- the theorem

  pub always : (st : State) (w : W) (cs : List C) → EachAccepted (λ t. Unit {0}) heard one st w cs
  always st w [] = tt
  always st w (c ∷ cs) = (λ e. tt, always (one st w c).state (one st w c).world cs)

  each_age : (last : ℕ → ℕ) (now t : ℕ) → Follows now t → (ps : List Place) → AllDated (λ x. Unit {0}) last now ps →
      Each (λ (p : Place). p.held ≡ true → last p.source + age (tick_at t) p.tick ≡ t) ps
  each_age last now t follows [] d = tt
  each_age last now t follows (p ∷ ps) d = (λ h. age-is (λ x. Unit {0}) last now t follows p (d.0 h), each_age last now t follows ps d.1)

  pub true-ages : TrueAges heard one
  true-ages st w cs t start k u =
      let r = in_time (λ x. Unit {0}) st w cs t start k u (always st w cs) in
      each_age (λ s. last_from heard one s 0 st w cs) r.now t r.follows (run_calls one st w cs).state.places r.left.dated
