-- What each answer of the joining functions owes. The result of a callee is a variable here, with what the callee ensures of it.
-- Assumes nothing.
use mathlib.Core.Path.{◌≡◌, refl, sym, ap, ◌∙◌, subst}
use mathlib.Core.Bool.{Bool, true, false, cond, ◌&&◌, true≢false}
use mathlib.Core.List.{List, ◌++◌}
use Prim.Native.Nat.{ℕ, ◌+◌, ◌-◌, ◌*◌, ◌≤◌, ◌<◌}
use native.Mathlib.Nat.{add-zero}
use native.Mathlib.Omega.{arith}
use lib.Dec.{leb, ltb, eqb}
use lib.ListN.{length, take, drop, get_or, set, length-drop}
use lib.Seq.{length-take-le, set-get_or}
use borrow.Author.Tests.{ltb-true, ltb-false, lt-ltb, leb-true, eqb-true, eqb-false, lt-leb}
use Rattle.buffer.specs.Buffer.{put_at, placed}
use Rattle.buffer.proofs.Choice.{clash, by-test, and_left, and_right}
use Rattle.buffer.proofs.Laws.{placed-fits, placed-not, take_put, drop-put}
use Rattle.can_frame.specs.declared.TransportRefusal.{TransportRefusal}
use Rattle.can_frame.specs.declared.Role.{Role}
use Rattle.can_frame.specs.declared.Role.TheVariants.{Ignored, Single, First, Middle, Last}
use Rattle.can_frame.specs.declared.TransportRefusal.TheVariants.{OutOfOrder, TemporaryError, BufferUnavailable}
use Rattle.can_frame.specs.Frame.{can_frame, source_of, addressed, role_of}
use Rattle.rx_step.specs.declared.Step.{Step}
use Rattle.rx_step.specs.declared.Step.TheVariants.{Ignore, Deliver, Open, Append, Close, Refuse, RefuseAndSwallow, Swallow, SwallowLast}
use Rattle.rx_step.specs.Step.{step_new, step_more, step_swallowed, step_of}
use Rattle.rx_place_spec.specs.declared.Place.{Place}
use Rattle.rx_place_spec.specs.Place.{place, held_for, swallowing_for, free_place}
use Rattle.rx_place_spec.specs.Ticks.{drop_due}
use Rattle.rx_spec.specs.Books.{Event, blank, holds, swallowing, no_answer, refuse, finish}
use Rattle.rx_place_spec.specs.State.{State, state}
use Rattle.rx_spec.specs.Reception.{place_of, free_in, has_place, full, size_at, bytes_of_place, dropped, appended, closed, kept_after_refusal, Joined, joined, join_rule, join_sound, receive, is_for, sound, at_tick}
use Rattle.rx_place_spec.specs.PlaceBytes.{places_in, place_bytes, state_in, same_place, renewed}
use Rattle.rx_spec.proofs.PlaceLaws.{is_for-held, is_for-source, good-short, kept-bytes, kept-swallowing, sound-good, good-sound, place_found, place_out, free, free_out, blank_of}
use Rattle.rx_place_spec.proofs.ByteLaws.{places-length, renewed-same, Changed, changed-places, changed-bytes, differ-held, differ-len, differ-tick, differ-swallowing}
use Rattle.rx_spec.proofs.StepLaws.{joins}
use Rattle.rx_spec.proofs.DropLaws.{good-due, sized_due}
use Rattle.rx_spec.proofs.DropBytes.{renewed-after}
use Rattle.rx_join_spec.specs.declared.Outcome.{Outcome}
use Rattle.rx_join_spec.specs.declared.Outcome.TheVariants as outcome
use Rattle.rx_join_spec.specs.Joins.{outcome_event, InsidePool, Joins}
use Rattle.rx_join_spec.specs.Inner.{Lent, Appendable, Own, Allowed, freed_if, step_done}

-- the state stays as it was
pub stays_joins : (d pool xs : List ℕ) (o : Outcome) (e : Event) → outcome_event o d pool ≡ e → InsidePool o → Joins (joined (state_in xs pool) e) d o xs xs pool
stays_joins d pool xs o e b i = record { places = refl; renewal = renewed-same xs; pool = refl; event = b; inside = i }

-- ---- opened

-- in place k, which is that of s, if it is being swallowed, and otherwise the first free one
module _ (s i : ℕ) (d : List ℕ) (now : ℕ) (pool xs : List ℕ) (k : ℕ) (e : k ≡ cond (ltb i 8) i (free_in (places_in xs))) where
  abbrev opening : Bool → Joined
  opening b = step_done Open b s i d now (state_in xs pool)

  pub open_full : 8 ≤ k → Joins (opening (ltb i 8)) d (outcome.TransportRefusal BufferUnavailable) xs xs pool
  open_full h = found (ltb i 8) refl
    where
      go : (b : Bool) → full (places_in xs) ≡ b → k ≡ free_in (places_in xs) → Joins (opening false) d (outcome.TransportRefusal BufferUnavailable) xs xs pool
      go true q n = rw q (stays_joins d pool xs (outcome.TransportRefusal BufferUnavailable) (refuse BufferUnavailable) refl tt)
      go false q n = absurd (omega (arith, places-length xs, (free (places_in xs) q).inside))

      found : (b : Bool) → ltb i 8 ≡ b → Joins (opening b) d (outcome.TransportRefusal BufferUnavailable) xs xs pool
      found true q = let n : k ≡ i = rw q at e in absurd (omega (arith, ltb-true i 8 q))
      found false q = go (full (places_in xs)) refl (rw q at e)

  pub open_done : Lent pool d → (i < 8 → Own i s true xs) → (after bytes : List ℕ) → Changed k (held_for s (length d) now) xs after → bytes ≡ placed (72 * k) d pool →
      Joins (opening (ltb i 8)) d outcome.NoAnswer xs after bytes
  open_done m o after bytes c a = found (ltb i 8) refl
    where
      go : (b : Bool) → full (places_in xs) ≡ b → k ≡ free_in (places_in xs) → Joins (opening false) d outcome.NoAnswer xs after bytes
      go true u n = absurd (omega (arith, places-length xs, free_out (places_in xs) u, c.inside))
      go false u n =
          let v : (get_or (places_in xs) k free_place).held ≡ false = rw n (free (places_in xs) u).free in
          rw (u, ← n, add-zero)
          (record {
            places = changed-places c;
            renewal = changed-bytes c (differ-held (get_or (places_in xs) k free_place) (held_for s (length d) now) false v refl);
            pool = a ∙ placed-fits (72 * k) d pool (omega (arith, c.inside, m.pool, m.payload));
            event = refl;
            inside = tt;
          })

      found : (b : Bool) → ltb i 8 ≡ b → Joins (opening b) d outcome.NoAnswer xs after bytes
      found true q =
          let n : k ≡ i = rw q at e in
          rw (← n, add-zero)
          (record {
            places = changed-places c;
            renewal = changed-bytes c (differ-swallowing (get_or (places_in xs) k free_place) (held_for s (length d) now) true (rw n (o (ltb-true i 8 q)).kind) refl);
            pool = a ∙ placed-fits (72 * k) d pool (omega (arith, c.inside, m.pool, m.payload));
            event = refl;
            inside = tt;
          })
      found false q = go (full (places_in xs)) refl (rw q at e)

-- ---- swallowed

module _ (i s : ℕ) (d : List ℕ) (now : ℕ) (pool xs : List ℕ) where
  abbrev held : Place
  held = get_or (places_in xs) i free_place

  -- a refused frame, after which what follows is swallowed
  pub refuse-and-swallow_done : (unfinished : Bool) (refusal : TransportRefusal) (tick : ℕ) (after : List ℕ) → Own i s false xs → tick ≡ held.tick → Changed i (swallowing_for s tick) xs after →
      Joins (step_done (RefuseAndSwallow refusal) unfinished s i d now (state_in xs pool)) d (outcome.TransportRefusal refusal) xs after pool
  refuse-and-swallow_done unfinished refusal tick after u e c =
      rw (← e)
      (record {
        places = changed-places c;
        renewal = changed-bytes c (differ-swallowing held (swallowing_for s tick) false u.kind refl);
        pool = refl;
        event = refl;
        inside = tt;
      })

  -- a Middle, which is the last accepted frame from now on
  module _ (u : Own i s true xs) where
    changed-swallow : (after : List ℕ) → Changed i (swallowing_for s now) xs after → same_place held (swallowing_for s now) ≡ false →
        Joins (step_done Swallow true s i d now (state_in xs pool)) d outcome.NoAnswer xs after pool
    changed-swallow after c n = record { places = changed-places c; renewal = changed-bytes c n; pool = refl; event = refl; inside = tt }

    -- with another length than 0, or at another tick than that of the place
    pub swallow_else : (after : List ℕ) → Changed i (swallowing_for s now) xs after → (eqb held.len 0 && eqb held.tick now) ≡ false →
        Joins (step_done Swallow true s i d now (state_in xs pool)) d outcome.NoAnswer xs after pool
    swallow_else after c n =
        by-test (eqb held.len 0)
        (λ q. changed-swallow after c (differ-tick held (swallowing_for s now) (eqb-false held.tick now (rw q at n))))
        (λ q. changed-swallow after c (differ-len held (swallowing_for s now) (eqb-false held.len 0 q)))

    -- the place is so already
    pub swallow_same : (eqb held.len 0 && eqb held.tick now) ≡ true → Joins (step_done Swallow true s i d now (state_in xs pool)) d outcome.NoAnswer xs xs pool
    swallow_same y =
        let l : held.len ≡ 0 = eqb-true held.len 0 (and_left (eqb held.len 0) (eqb held.tick now) y) in
        let t : held.tick ≡ now = eqb-true held.tick now (and_right (eqb held.len 0) (eqb held.tick now) y) in
        let p : held ≡ swallowing_for s now =
        ap (λ (x : Bool). place x held.len held.source held.tick held.swallowing) (is_for-held s held u.own)
        ∙ ap (λ (x : ℕ). place true x held.source held.tick held.swallowing) l
        ∙ ap (λ (x : ℕ). place true 0 x held.tick held.swallowing) (is_for-source s held u.own)
        ∙ ap (λ (x : ℕ). place true 0 s x held.swallowing) t ∙ ap (place true 0 s now) u.kind in
        let e : places_in xs ≡ set (places_in xs) i (swallowing_for s now) = sym (set-get_or (places_in xs) i free_place) ∙ ap (set (places_in xs) i) p in
        record { places = e; renewal = renewed-same xs ∙ ap (λ (ps : List Place). renewed ps xs) e; pool = refl; event = refl; inside = tt }

-- ---- appended to, and closed

module _ (i n : ℕ) (last : Bool) (d pool xs : List ℕ) (m : Lent pool d) (u : Appendable i n last xs d) (after bytes : List ℕ) (a : bytes ≡ placed (72 * i + n) d pool) where
  abbrev st : State
  st = state_in xs pool

  put : bytes ≡ put_at (72 * i + n) d pool
  put = a ∙ placed-fits (72 * i + n) d pool (omega (arith, u.inside, u.total, m.pool))

  pub append_done : last ≡ false → (s now : ℕ) → Changed i (held_for s (n + length d) now) xs after →
      Joins (step_done Append true s i d now st) d outcome.NoAnswer xs after bytes
  append_done l s now c =
      rw (← u.len)
      (record {
        places = changed-places c;
        renewal = changed-bytes c (differ-len (get_or (places_in xs) i free_place) (held_for s (n + length d) now) (λ q. omega (arith, q, u.len, u.some l)));
        pool = put;
        event = refl;
        inside = tt;
      })

  -- the part of the pool that is the datagram
  whole : (end : ℕ) → end ≡ 72 * i + (n + length d) → take (end - 72 * i) (drop (72 * i) (put_at (72 * i + n) d pool)) ≡ take n (drop (72 * i) pool) ++ d
  whole end q =
      let k : end - 72 * i ≡ n + length d = omega arith in
      let h : 72 * i + n ≤ length pool = omega (arith, u.inside, u.total, m.pool) in
      let v : n ≤ length (drop (72 * i) pool) = rw length-drop (omega arith) in
      rw (k, drop-put (72 * i) n d pool h) (take_put n d (drop (72 * i) pool) v)

  pub close-done : (s end : ℕ) → Changed i free_place xs after → end ≡ 72 * i + (n + length d) →
      Joins (step_done Close true s i d 0 st) d (outcome.InPool (72 * i) end) xs after bytes
  close-done s end c q =
      rw (← u.len)
      (record {
        places = changed-places c;
        renewal = changed-bytes c (differ-held (get_or (places_in xs) i free_place) free_place true u.held refl);
        pool = put;
        event = ap (finish) (rw put (whole end q));
        inside = (omega arith, omega (arith, u.inside, u.total));
      })

-- ---- left

-- place i becomes free, if it is there
pub left-joins : (i : ℕ) (d pool xs : List ℕ) (o : Outcome) (e : Event) (after : List ℕ) → outcome_event o d pool ≡ e → InsidePool o → length xs ≡ 64 → (i < 8 → (get_or (places_in xs) i free_place).held ≡ true) →
    after ≡ placed (8 * i) (place_bytes free_place) xs → Joins (joined (freed_if (ltb i 8) i (state_in xs pool)) e) d o xs after pool
left-joins i d pool xs o e after b inside z held a = go (ltb i 8) refl
  where
    go : (t : Bool) → ltb i 8 ≡ t → Joins (joined (freed_if t i (state_in xs pool)) e) d o xs after pool
    go true y =
        let c : Changed i free_place xs after = record { inside = ltb-true i 8 y; size = z; bytes = a } in
        record {
          places = changed-places c;
          renewal = changed-bytes c (differ-held (get_or (places_in xs) i free_place) free_place true (held (ltb-true i 8 y)) refl);
          pool = refl;
          event = b;
          inside = inside;
        }
    go false y = rw (a ∙ sym (placed-not (8 * i) (place_bytes free_place) xs (omega (arith, ltb-false i 8 y)))) (stays_joins d pool xs o e b inside)

-- ---- what a step stands for

-- what is so where a step is taken, for a source that is unfinished or not, and is being swruled or not
Ruled : Step → Bool → Bool → ℕ → ℕ → Type 0
Ruled Ignore b w l n = Unit {0}
Ruled Deliver b w l n = Unit {0}
Ruled Open b w l n = b ≡ true → w ≡ true
Ruled Append b w l n = (b ≡ true) × (w ≡ false) × (0 < n) × (l + n ≤ 72)
Ruled Close b w l n = (b ≡ true) × (w ≡ false) × (l + n ≤ 72)
Ruled (Refuse refusal) b w l n = Unit {0}
Ruled (RefuseAndSwallow refusal) b w l n = (b ≡ true) × (w ≡ false)
Ruled Swallow b w l n = (b ≡ true) × (w ≡ true)
Ruled SwallowLast b w l n = Unit {0}

ruled : (role : Role) (n : ℕ) (b w : Bool) (l : ℕ) → Ruled (step_of role n b w l) b w l n
unfolding step_of Ruled
ruled Ignored n true false l = tt
ruled Single n true false l = (refl, refl)
ruled First n true false l = (refl, refl)
ruled Middle n true false l = go (eqb n 0) refl (leb (l + n) 72) refl
  where
    go : (z : Bool) → eqb n 0 ≡ z → (f : Bool) → leb (l + n) 72 ≡ f → Ruled (cond z (RefuseAndSwallow OutOfOrder) (cond f Append (RefuseAndSwallow TemporaryError))) true false l n
    go true y f q = (refl, refl)
    go false y true q = (refl, refl, omega (arith, eqb-false n 0 y), leb-true (l + n) 72 q)
    go false y false q = (refl, refl)
ruled Last n true false l = go (leb (l + n) 72) refl
  where
    go : (f : Bool) → leb (l + n) 72 ≡ f → Ruled (cond f Close (Refuse TemporaryError)) true false l n
    go true q = (refl, refl, leb-true (l + n) 72 q)
    go false q = tt
ruled Ignored n true true l = tt
ruled Single n true true l = tt
ruled First n true true l = λ e. refl
ruled Middle n true true l = (refl, refl)
ruled Last n true true l = tt
ruled Ignored n false w l = tt
ruled Single n false w l = tt
ruled First n false w l = λ e. clash (sym e)
ruled Middle n false w l = tt
ruled Last n false w l = tt

-- ---- by whether the search found a place

module _ (s i : ℕ) (d : List ℕ) (now : ℕ) (pool xs : List ℕ) (m : Lent pool d) (g : sound (places_in xs) ≡ true) (e : i ≡ place_of s (places_in xs)) where
  abbrev here : State
  here = state_in xs pool

  abbrev len : ℕ
  len = size_at i (places_in xs)

  found : i < 8 → has_place s (places_in xs) ≡ true
  found h = go (has_place s (places_in xs)) refl
    where
      go : (b : Bool) → has_place s (places_in xs) ≡ b → has_place s (places_in xs) ≡ true
      go true u = u
      go false u = absurd (omega (arith, places-length xs, place_out s (places_in xs) u))

  not_found : 8 ≤ i → has_place s (places_in xs) ≡ false
  not_found h = go (has_place s (places_in xs)) refl
    where
      go : (b : Bool) → has_place s (places_in xs) ≡ b → has_place s (places_in xs) ≡ false
      go true u = absurd (omega (arith, places-length xs, (place_found s (places_in xs) pool u).inside))
      go false u = u

  own : i < 8 → is_for s (get_or (places_in xs) i free_place) ≡ true
  own h = rw e (place_found s (places_in xs) pool (found h)).own

  pub is_held : i < 8 → (get_or (places_in xs) i free_place).held ≡ true
  is_held h = is_for-held s _ (own h)

  size_is : i < 8 → (get_or (places_in xs) i free_place).swallowing ≡ false → length (bytes_of_place i here) ≡ len
  size_is h n =
      let k : len ≤ 72 = good-short (places_in xs) i (sound-good (places_in xs) g) (is_held h) n (omega (arith, places-length xs)) in
      length-take-le len (drop (72 * i) pool) (rw length-drop (omega (arith, m.pool)))

  -- of a source that holds a datagram
  more : (role : Role) → length (bytes_of_place i here) ≡ len → join_rule role s d now here (holds (bytes_of_place i here)) ≡ step_done (step_more role len (length d)) true s i d now here
  more Ignored h = refl
  more Single h = rw (← e) refl
  more First h = rw (← e) refl
  more Middle h = rw (← e, h) (go (eqb (length d) 0) (leb (len + length d) 72))
    where
      go : (z f : Bool) →
          cond z (joined (kept_after_refusal s i here) (refuse OutOfOrder)) (cond f (joined (appended s d now i here) no_answer) (joined (kept_after_refusal s i here) (refuse TemporaryError)))
          ≡ step_done (cond z (RefuseAndSwallow OutOfOrder) (cond f Append (RefuseAndSwallow TemporaryError))) true s i d now here
      go true f = refl
      go false true = refl
      go false false = refl
  more Last h = rw (← e, h) (go (leb (len + length d) 72))
    where
      go : (f : Bool) → cond f (joined (closed d i here) (finish (bytes_of_place i here ++ d))) (joined (dropped i here) (refuse TemporaryError)) ≡ step_done (cond f Close (Refuse TemporaryError)) true s i d now here
      go true = refl
      go false = refl

  -- of one that is being swallowed
  more_swallowed : (role : Role) → join_rule role s d now here swallowing ≡ step_done (step_swallowed role) true s i d now here
  more_swallowed Ignored = refl
  more_swallowed Single = rw (← e) refl
  more_swallowed First = rw (← e) refl
  more_swallowed Middle = rw (← e) refl
  more_swallowed Last = rw (← e) refl

  new : (role : Role) → join_rule role s d now here blank ≡ step_done (step_new role) false s i d now here
  new Ignored = refl
  new Single = refl
  new First = refl
  new Middle = refl
  new Last = refl

  rules : (role : Role) (b w : Bool) → ltb i 8 ≡ b → (get_or (places_in xs) i free_place).swallowing ≡ w →
      join_sound role s d now here ≡ step_done (step_of role (length d) b w len) b s i d now here
  unfolding join_sound step_of
  rules role true false q v =
      rw ((place_found s (places_in xs) pool (found (ltb-true i 8 q))).kept, ← e, kept-bytes (get_or (places_in xs) i free_place) (drop (72 * i) pool) v) (more role (size_is (ltb-true i 8 q) v))
  rules role true true q v =
      rw ((place_found s (places_in xs) pool (found (ltb-true i 8 q))).kept, ← e, kept-swallowing (get_or (places_in xs) i free_place) (drop (72 * i) pool) v) (more_swallowed role)
  rules role false w q v = rw (blank_of s (places_in xs) pool (not_found (ltb-false i 8 q))) (new role)

  module _ (role : Role) (w : Bool) (v : w ≡ (get_or (places_in xs) i free_place).swallowing) (l : ℕ) (k : l ≡ len) where
    -- the step x that the rules give is taken
    pub step_joins : (x : Step) → x ≡ step_of role (length d) (ltb i 8) w l → (o : Outcome) (after bytes : List ℕ) →
        Joins (step_done x (ltb i 8) s i d now here) d o xs after bytes → Joins (join_sound role s d now here) d o xs after bytes
    step_joins x p o after bytes j = rw (rules role (ltb i 8) w refl (sym v), ← k, ← p) j

    owned : (y : Bool) → ltb i 8 ≡ true → w ≡ y → Own i s y xs
    owned y h q = let n = ltb-true i 8 h in record { inside = n; own = own n; kind = sym v ∙ q }

    fitting : (last : Bool) → ltb i 8 ≡ true → l + length d ≤ 72 → (last ≡ false → 0 < length d) → Appendable i l last xs d
    fitting last h t some = let n = ltb-true i 8 h in record { inside = n; held = is_held n; len = k; total = t; some = some }

    by-rule : (x : Step) → Ruled x (ltb i 8) w l (length d) → Allowed x i s l xs d
    unfolding Ruled
    by-rule Ignore r = tt
    by-rule Deliver r = tt
    by-rule Open r = λ h. owned true (lt-ltb i 8 h) (r (lt-ltb i 8 h))
    by-rule Append r = fitting false r.0 r.3 (λ q. r.2)
    by-rule Close r = fitting true r.0 r.2 (λ q. absurd (true≢false q))
    by-rule (Refuse refusal) r = tt
    by-rule (RefuseAndSwallow refusal) r = owned false r.0 r.1
    by-rule Swallow r = (owned true r.0 r.1, k)
    by-rule SwallowLast r = tt

    -- what it asks for is so
    pub step_allowed : (x : Step) → x ≡ step_of role (length d) (ltb i 8) w l → Allowed x i s l xs d
    step_allowed x p = by-rule x (subst (λ (y : Step). Ruled y (ltb i 8) w l (length d)) (sym p) (ruled role (length d) (ltb i 8) w l))

-- ---- the frame

-- B7 lets the places, which were xs, pass, and they are `mid` after the drop
module _ (alias now header : ℕ) (d pool xs mid : List ℕ) (ok : sound (places_in xs) ≡ true) (places : places_in mid ≡ drop_due now (places_in xs))
    (renewal : mid ≡ renewed (drop_due now (places_in xs)) xs) where
  abbrev received : Joined
  received = receive alias now (state_in xs pool) (can_frame header d)

  pub mid_sound : sound (places_in mid) ≡ true
  mid_sound = rw places (good-sound (drop_due now (places_in xs)) (good-due now (places_in xs) (sound-good (places_in xs) ok)))

  pub mid_place : (s i : ℕ) → i ≡ place_of s (drop_due now (places_in xs)) → i ≡ place_of s (places_in mid)
  mid_place s i q = rw places q

  pub long_joins : 8 < length d → Joins received d outcome.Ignored xs mid pool
  unfolding receive join_sound role_of addressed
  long_joins h = rw (lt-leb (length d) 8 h) (record { places = places; renewal = renewal; pool = refl; event = refl; inside = tt })

  -- the frame joined to what is left
  pub sound-joins : (role : Role) (s : ℕ) (o : Outcome) (after bytes : List ℕ) → length pool ≡ 576 → role ≡ role_of alias header (length d) → s ≡ source_of header →
      Joins (join_sound role s d now (state_in mid pool)) d o mid after bytes → Joins received d o xs after bytes
  unfolding receive
  sound-joins role s o after bytes l u v j =
      let st : State = at_tick now (state_in xs pool) in
      let q : state_in mid pool ≡ st = ap (λ (ps : List Place). state ps pool) places in
      let w : join_sound role s d now (state_in mid pool) ≡ join_sound (role_of alias header (length d)) (source_of header) d now st =
      ap (λ (x : State). join_sound role s d now x) q ∙ rw (← u, ← v) in
      let k : Joins (join_sound (role_of alias header (length d)) (source_of header) d now st) d o mid after bytes = subst (λ (x : Joined). Joins x d o mid after bytes) w j in
      let step = joins alias now (can_frame header d) st (good-due now (places_in xs) (sound-good (places_in xs) ok))
      (sized_due now (state_in xs pool) (record { eight = places-length xs; bytes = l })) in
      record {
        places = k.places;
        renewal = k.renewal ∙ ap (renewed (join_sound (role_of alias header (length d)) (source_of header) d now st).state.places) renewal
            ∙ renewed-after now (source_of header) _ xs _ step.turned;
        pool = k.pool;
        event = k.event;
        inside = k.inside;
      }
