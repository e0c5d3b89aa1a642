-- Eight places are free once frames stop being accepted, from any state. The invariant: each place that is held has the tick of some time at
-- which a frame was accepted, or of one before the first call, and is not more than 3,000 ticks old after a call.
-- Assumes nothing.
use Prim.Native.Nat.{ℕ, ◌+◌, ◌-◌, ◌≤◌, ◌<◌}
use mathlib.Core.Path.{◌≡◌, refl, sym, ap, ◌∙◌, subst}
use mathlib.Core.Logic.{inl, inr}
use mathlib.Core.Bool.{Bool, true, false, ◌||◌}
use mathlib.Core.List.{List, [], ◌∷◌}
use native.Mathlib.Omega.{arith}
use lib.Dec.{ltb}
use lib.ListN.{length}
use borrow.Author.Tests.{ltb-false, lt-ltb}
use Rattle.buffer.specs.Buffer.{Each}
use Rattle.buffer.proofs.Choice.{clash, by-test}
use Rattle.can_frame.specs.Frame.{source_of}
use Rattle.rx_place_spec.specs.declared.Place.{Place}
use Rattle.rx_place_spec.specs.Ticks.{tick_at, age, is_due, drop_due}
use Rattle.rx_spec.specs.Books.{is_unfinished}
use Rattle.rx_spec.specs.Times.{Input, frame_input, lone_tick, Timed, Follows, moment, MayFollow, InTimeAfter, InTime, is_accepted}
use Rattle.rx_place_spec.specs.State.{State}
use Rattle.rx_spec.specs.Reception.{is_for, sound, has_place, unfinished_for, at_tick}
use Rattle.rx_spec.specs.Order.{FrameResult, answer_event, handle_input, run_calls, keep, join_at, is_caller_error, accepts_frame}
use Rattle.rx_source_spec.specs.Aging.{moments_to, FarBefore, EachAccepted, free_count, AnyState, FirstAt, EightFree, JoinCall, JoinAging}
use Rattle.rx_spec.proofs.PlaceLaws.{is_for-self, none-head, none_tail, unfinished-is, sound-good}
use Rattle.rx_spec.proofs.StepLaws.{Sized}
use Rattle.rx_spec.proofs.TurnedLaws.{Turned, AllTurned}
use Rattle.rx_spec.proofs.DropLaws.{Dated, is-due, sized_due, due_old, by-due, caught_up}
use Rattle.rx_spec.proofs.InputLaws.{taken, input-is, frame_step, accepted-is, answered-state, join-unrefused, join-keeps}
use Rattle.rx_source_spec.proofs.Aging.{true-ages}

-- times counted on by 65,536, so that a place may be older than the first of them
abbrev on : ℕ → ℕ
on t = t + 65536

on_tick : (t : ℕ) → tick_at (on t) ≡ tick_at t
on_tick t = omega arith

-- the place p has the tick of some time, which is P, at most 3,000 before `now`
record Since (P : ℕ → Type 0) (now : ℕ) (p : Place) : Type 0 where
  time : ℕ
  dated : Dated P (λ x. time) now p

abbrev AllSince : (ℕ → Type 0) → ℕ → List Place → Type 0
AllSince P now ps = Each (λ (p : Place). p.held ≡ true → Since P now p) ps

-- where no place is held
none-since : (P : ℕ → Type 0) (now : ℕ) (ps : List Place) → ((s : ℕ) → has_place s ps ≡ false) → AllSince P now ps
none-since P now [] n = tt
none-since P now (p ∷ ps) n =
    (λ h. clash (sym (is_for-self p.source p h refl) ∙ none-head p.source p ps (n p.source)), none-since P now ps (λ s. none_tail s p ps (n s)))

due_step : (P : ℕ → Type 0) (now t : ℕ) → Follows now t → (ps : List Place) → AllSince P now ps → AllSince P t (drop_due (tick_at t) ps)
unfolding drop_due
due_step P now t follows [] d = tt
due_step P now t follows (p ∷ ps) d =
    by-due (tick_at t) p
    (λ e q. rw q (λ h. clash (sym h), due_step P now t follows ps d.1))
    (λ e q. rw q (
      λ h. let x = d.0 h in
          record {
            time = x.time;
            dated = record {
              tick = x.dated.tick;
              past = omega (arith, x.dated.past, follows.0);
              young = ltb-false (x.time + 3000) t (sym (due_old P (λ y. x.time) now t follows p h x.dated) ∙ e);
              kept = x.dated.kept;
            };
          },
      due_step P now t follows ps d.1,
    ))

-- the first drop, of any places
back : (t k : ℕ) → k < 65536 → age (tick_at t) k ≤ 3000 → k ≡ tick_at (on t - age (tick_at t) k)
back t k s y = omega (arith, s, y)

has_behind : (s : ℕ) (p : Place) (ps : List Place) → has_place s ps ≡ true → has_place s (p ∷ ps) ≡ true
has_behind s p ps h = go (is_for s p)
  where
    go : (b : Bool) → (b || has_place s ps) ≡ true
    go true = refl
    go false = h

first-drop : (P : ℕ → Type 0) (t : ℕ) (ps : List Place) → ((s x : ℕ) → has_place s ps ≡ true → x ≤ on t → P x) → Each (λ (p : Place). p.tick < 65536) ps →
    AllSince P (on t) (drop_due (tick_at t) ps)
unfolding drop_due
first-drop P t [] down k = tt
first-drop P t (p ∷ ps) down k =
    by-due (tick_at t) p
    (λ e q. rw q (λ h. clash (sym h), first-drop P t ps (λ s x h. down s x (has_behind s p ps h)) k.1))
    (λ e q. rw q (
      λ h. let y : age (tick_at t) p.tick ≤ 3000 = ltb-false 3000 (age (tick_at t) p.tick) (sym (is-due (tick_at t) p h) ∙ e) in
          record {
            time = on t - age (tick_at t) p.tick;
            dated = record {
              tick = back t p.tick (omega (arith, k.0)) y;
              past = omega arith;
              young = omega (arith, y);
              kept = down p.source _ (rw (is_for-self p.source p h refl)) (omega arith);
            };
          },
      first-drop P t ps (λ s x h. down s x (has_behind s p ps h)) k.1,
    ))

turn : (P : ℕ → Type 0) (t s : ℕ) (accepted : Bool) → (accepted ≡ true → P (on t)) → (qs ps : List Place) → AllSince P (on t) qs →
    AllTurned (tick_at t) s accepted qs ps → AllSince P (on t) ps
turn P t s accepted own [] [] d a = tt
turn P t s accepted own [] (p ∷ ps) d a = absurd a
turn P t s accepted own (q ∷ qs) [] d a = absurd a
turn P t s accepted own (q ∷ qs) (p ∷ ps) d a = (go a.0, turn P t s accepted own qs ps d.1 a.1)
  where
    go : Turned (tick_at t) s accepted q p → p.held ≡ true → Since P (on t) p
    go (inl (k, n)) h =
        let x = d.0 (sym k.held ∙ h) in
        record { time = x.time; dated = record { tick = k.tick ∙ x.dated.tick; past = x.dated.past; young = x.dated.young; kept = x.dated.kept } }
    go (inr (inl e)) h = clash (sym h ∙ e)
    go (inr (inr (e, v, b))) h =
        record { time = on t; dated = record { tick = e ∙ sym (on_tick t); past = omega arith; young = omega arith; kept = own b } }

all-free : (t now : ℕ) → Follows now t → (ps : List Place) → AllSince (FarBefore (on t)) (on now) ps → free_count (drop_due (tick_at t) ps) ≡ length ps
unfolding drop_due
all-free t now follows [] d = refl
all-free t now follows (p ∷ ps) d =
    by-due (tick_at t) p
    (λ e q. rw (q, all-free t now follows ps d.1) (omega arith))
    (λ e q. rw (q, free e, all-free t now follows ps d.1) (omega arith))
  where
    free : is_due (tick_at t) p ≡ false → p.held ≡ false
    free e =
        by-test p.held
        (λ h. let x = d.0 h in
        let o : is_due (tick_at t) p ≡ ltb (x.time + 3000) (on t) =
        subst (λ (k : ℕ). is_due k p ≡ ltb (x.time + 3000) (on t)) (on_tick t)
        (due_old (FarBefore (on t)) (λ y. x.time) (on now) (on t) (omega (arith, follows.0), omega (arith, follows.1)) p h x.dated) in
        clash (sym (o ∙ lt-ltb (x.time + 3000) (on t) (omega (arith, x.dated.kept))) ∙ e))
        (λ h. h)

-- calls that each have a handler, an alias and a world of their own; a refused one leaves the state
module _ {C H W A : Type 0} (heard : C → Timed) (handle : C → W → List ℕ → A × W) (alias : C → ℕ) (lent : C → W → W) (one : State → W → C → FrameResult H W A)
    (same : (st : State) (w : W) (c : C) → is_caller_error (one st w c).answer ≡ false →
    (sound st.places ≡ true) × (one st w c ≡ handle_input (handle c) (alias c) st (lent c w) (heard c).time (heard c).input))
    (refused : (st : State) (w : W) (c : C) → is_caller_error (one st w c).answer ≡ true → (one st w c).state ≡ st) where
  record Left (P : ℕ → Type 0) (now : ℕ) (st : State) : Type 0 where
    sized : Sized st
    since : AllSince P (on now) st.places

  -- what a call leaves, of the state that its tick leaves
  module _ (P : ℕ → Type 0) (t : ℕ) (st : State) (w : W) (ok : sound st.places ≡ true) (sized : Sized st) (dropped : AllSince P (on t) (at_tick (tick_at t) st).places) (c : C) where
    abbrev answered : Input → FrameResult H W A
    answered i = answer_event (handle c) (taken (alias c) (tick_at t) st i).state (lent c w) (taken (alias c) (tick_at t) st i).event

    input-left : (i : Input) → (accepts_frame i (answered i).answer ≡ true → P (on t)) → Left P t (answered i).state
    input-left (frame_input f) a =
        let step = frame_step (alias c) (tick_at t) f st (sound-good st.places ok) sized in
        let e : Bool = is_accepted (taken (alias c) (tick_at t) st (frame_input f)).event in
        subst (λ (x : State). Left P t x)
        (sym (answered-state H (handle c) (taken (alias c) (tick_at t) st (frame_input f)).state (lent c w) (taken (alias c) (tick_at t) st (frame_input f)).event))
        (record {
          sized = step.sized;
          since = turn P t (source_of f.header) e
              (λ y. a (accepted-is H (handle c) (taken (alias c) (tick_at t) st (frame_input f)).state (lent c w) f (taken (alias c) (tick_at t) st (frame_input f)).event ∙ y))
              (at_tick (tick_at t) st).places (taken (alias c) (tick_at t) st (frame_input f)).state.places dropped step.turned;
        })
    input-left lone_tick a = record { sized = sized_due (tick_at t) st sized; since = dropped }

    call-left : (heard c).time ≡ t → is_caller_error (one st w c).answer ≡ false → (accepts_frame (heard c).input (one st w c).answer ≡ true → P (on t)) → Left P t (one st w c).state
    call-left e h a =
        let q : answered (heard c).input ≡ one st w c =
        sym ((same st w c h).1 ∙ ap (λ (x : ℕ). handle_input (handle c) (alias c) st (lent c w) x (heard c).input) e ∙ input-is H (handle c) (alias c) st (lent c w) t (heard c).input) in
        subst (λ (r : FrameResult H W A). (accepts_frame (heard c).input r.answer ≡ true → P (on t)) → Left P t r.state) q (input-left (heard c).input) a

  -- ---- the list of calls

  -- what is shown of the calls behind
  abbrev Freed : ℕ → State → W → List C → Type 0
  Freed t st w cs = free_count (at_tick (tick_at t) (run_calls one st w cs).state).places ≡ 8

  -- the moments from a call on
  from-refused : (t : ℕ) (c : C) (cs : List C) (st : State) (w : W) → is_caller_error (one st w c).answer ≡ true →
      moments_to t heard one st w (c ∷ cs) ≡ moments_to t heard one (one st w c).state (one st w c).world cs
  from-refused t c cs st w e = rw e

  from-call : (t : ℕ) (c : C) (cs : List C) (st : State) (w : W) → is_caller_error (one st w c).answer ≡ false →
      moments_to t heard one st w (c ∷ cs) ≡ moment (heard c).time (unfinished_for st) ∷ moments_to t heard one (one st w c).state (one st w c).world cs
  from-call t c cs st w e = rw e

  -- a call that may follow, with what is not due
  dropped-by : (P : ℕ → Type 0) (now x : ℕ) (st : State) → Left P now st → MayFollow now (moment x (unfinished_for st)) → AllSince P (on x) (drop_due (tick_at x) st.places)
  dropped-by P now x st l m =
      subst (λ (y : ℕ). AllSince P (on x) (drop_due y st.places)) (on_tick x)
      (caught_up now x (unfinished_for st) st.places (λ s. unfinished-is s st.places st.pool) m
      (λ f. due_step P (on now) (on x) (omega (arith, f.0), omega (arith, f.1)) st.places l.since)
      (λ f n. due_step P (on x) (on x) (omega arith, omega arith) st.places (none-since P (on x) st.places n)))

  all : (t : ℕ) (cs : List C) (now : ℕ) (st : State) (w : W) → Left (FarBefore (on t)) now st → InTimeAfter now (moments_to t heard one st w cs) →
      EachAccepted (FarBefore t) heard one st w cs → Freed t st w cs
  all t [] now st w l k a =
      caught_up now t (unfinished_for st) st.places (λ s. unfinished-is s st.places st.pool) k.0
      (λ f. all-free t now f st.places l.since)
      (λ f n. all-free t t f st.places (none-since (FarBefore (on t)) (on t) st.places n))
      ∙ l.sized.eight
  all t (c ∷ cs) now st w l k a =
      by-test (is_caller_error (one st w c).answer)
      (λ u. all t cs now (one st w c).state (one st w c).world (subst (Left (FarBefore (on t)) now) (sym (refused st w c u)) l)
      (subst (InTimeAfter now) (from-refused t c cs st w u) k) a.1)
      (λ u. let m = subst (InTimeAfter now) (from-call t c cs st w u) k in
      all t cs (heard c).time (one st w c).state (one st w c).world
      (call-left (FarBefore (on t)) (heard c).time st w (same st w c u).0 l.sized (dropped-by (FarBefore (on t)) now (heard c).time st l m.0) c refl u
      (λ e. let y = a.0 e in omega (arith, y)))
      m.1 a.1)

  pub eight-free : EightFree heard one
  eight-free st w [] t any k far a =
      let n : (s : ℕ) → has_place s st.places ≡ false = λ s.
      by-test (has_place s st.places) (λ h. absurd (omega (arith, far s (unfinished-is s st.places st.pool ∙ h)))) (λ h. h) in
      all-free t t (omega arith, omega arith) st.places (none-since (FarBefore (on t)) (on t) st.places n) ∙ any.eight
  eight-free st w (c ∷ cs) t any k far a =
      by-test (is_caller_error (one st w c).answer)
      (λ u. let e = refused st w c u in
      eight-free (one st w c).state (one st w c).world cs t (subst AnyState (sym e) any) (subst InTime (from-refused t c cs st w u) k)
      (λ s h. subst (FirstAt (FarBefore t)) (from-refused t c cs st w u) (far s (ap (λ (x : State). is_unfinished (unfinished_for x s)) (sym e) ∙ h))) a.1)
      (λ u. let x : ℕ = (heard c).time in
      all t cs x (one st w c).state (one st w c).world
      (call-left (FarBefore (on t)) x st w (same st w c u).0 (record { eight = any.eight; bytes = any.bytes })
      (first-drop (FarBefore (on t)) x st.places
      (λ s y h p. let f : FarBefore t x = subst (FirstAt (FarBefore t)) (from-call t c cs st w u) (far s (unfinished-is s st.places st.pool ∙ h)) in omega (arith, p, f)) any.ticks)
      c refl u (λ e. let y = a.0 e in omega (arith, y)))
      (subst InTime (from-call t c cs st w u) k) a.1)

pub join-aging : JoinAging
join-aging =
    record {
      ages = λ alias. true-ages (λ (c : Timed). c) keep alias (join_at alias) (join-unrefused alias);
      eight-free = eight-free (λ (k : JoinCall). k.call) (λ k. keep) (λ (k : JoinCall). k.alias) (λ k ds. [])
          (λ st ds (k : JoinCall). join_at k.alias st [] k.call) (λ st ds k h. join-unrefused k.alias st [] k.call h)
          (λ st ds k h. join-keeps k.alias st [] k.call h);
    }
