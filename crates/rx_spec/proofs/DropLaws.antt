-- Laws of what is due: what is dropped leaves a sound state sound, and under the assumption on times what is due by the ticks is what is old by
-- the times.
-- Assumes nothing.
use Prim.Native.Nat.{ℕ, suc, ◌+◌, ◌≤◌, ◌<◌}
use mathlib.Core.Path.{◌≡◌, refl, sym, ap, ◌∙◌}
use mathlib.Core.Logic.{◌⊎◌, inl, inr}
use mathlib.Core.Bool.{Bool, true, false, cond}
use mathlib.Core.List.{List, [], ◌∷◌}
use native.Mathlib.Omega.{arith}
use lib.Dec.{ltb}
use lib.ListN.{length, drop}
use borrow.Author.Tests.{ltb-true, ltb-false, lt-ltb, le-ltb}
use Rattle.buffer.specs.Buffer.{Each}
use Rattle.buffer.proofs.Choice.{clash, and-false, and_left, and_right, by-test}
use Rattle.rx_place_spec.specs.declared.Place.{Place}
use Rattle.rx_place_spec.specs.Place.{free_place}
use Rattle.rx_place_spec.specs.Ticks.{tick_at, age, is_due, after_tick, drop_due}
use Rattle.rx_spec.specs.Books.{Book, blank, is_unfinished}
use Rattle.rx_spec.specs.Times.{Near, Follows, moment, MayFollow}
use Rattle.rx_place_spec.specs.State.{State}
use Rattle.rx_spec.specs.Reception.{is_for, unfinished_in, has_place, full, at_tick}
use Rattle.rx_spec.proofs.PlaceLaws.{is_for-held, is_for-source, is_for-free, is_for-self, none-head, none_tail, blank_of, Good}
use Rattle.rx_spec.proofs.TurnedLaws.{Kept, Turned, AllTurned}
use Rattle.rx_spec.proofs.StepLaws.{Sized}

-- ---- one place

pub due_held : (now : ℕ) (p : Place) → is_due now p ≡ true → p.held ≡ true
unfolding is_due
due_held now p e = and_left p.held (ltb 3000 (age now p.tick)) e

pub due_age : (now : ℕ) (p : Place) → is_due now p ≡ true → 3000 < age now p.tick
unfolding is_due
due_age now p e = ltb-true 3000 (age now p.tick) (and_right p.held (ltb 3000 (age now p.tick)) e)

pub is-due : (now : ℕ) (p : Place) → p.held ≡ true → is_due now p ≡ ltb 3000 (age now p.tick)
unfolding is_due
is-due now p e = rw e

-- the place after a tick, by whether it is due
pub by-due : {C : Type 0} (now : ℕ) (p : Place) → (is_due now p ≡ true → after_tick now p ≡ free_place → C) → (is_due now p ≡ false → after_tick now p ≡ p → C) → C
by-due now p x y = go (is_due now p) refl x y
  where
    go : {C : Type 0} (b : Bool) → is_due now p ≡ b → (is_due now p ≡ true → after_tick now p ≡ free_place → C) → (is_due now p ≡ false → after_tick now p ≡ p → C) → C
    go true e x y = x e (rw e)
    go false e x y = y e (rw e)

-- a place that is not for s is not for s afterwards
pub after-not : (now s : ℕ) (p : Place) → is_for s p ≡ false → is_for s (after_tick now p) ≡ false
after-not now s p n = by-due now p (λ e q. rw q (is_for-free s free_place refl)) (λ e q. rw q n)

-- ---- all places

pub none-due : (now s : ℕ) (ps : List Place) → has_place s ps ≡ false → has_place s (drop_due now ps) ≡ false
unfolding drop_due
none-due now s [] e = refl
none-due now s (p ∷ ps) e = rw (after-not now s p (none-head s p ps e)) (none-due now s ps (none_tail s p ps e))

pub good-due : (now : ℕ) (ps : List Place) → Good ps → Good (drop_due now ps)
unfolding drop_due
good-due now [] g = tt
good-due now (p ∷ ps) g =
    by-due now p
    (λ e q. rw q (λ h. clash (sym h), good-due now ps g.1))
    (λ e q. rw q (λ h. record { short = (g.0 h).short; small = (g.0 h).small; alone = none-due now p.source ps (g.0 h).alone }, good-due now ps g.1))

pub length-due : (now : ℕ) (ps : List Place) → length (drop_due now ps) ≡ length ps
unfolding drop_due
length-due now [] = refl
length-due now (p ∷ ps) = ap suc (length-due now ps)

pub sized_due : (now : ℕ) (st : State) → Sized st → Sized (at_tick now st)
sized_due now st z = record { eight = length-due now st.places ∙ z.eight; bytes = z.bytes }

-- a free place stays free
pub room_due : (now : ℕ) (ps : List Place) → full ps ≡ false → full (drop_due now ps) ≡ false
unfolding drop_due
room_due now [] e = e
room_due now (p ∷ ps) e = go p.held refl (room_due now ps)
  where
    go : (b : Bool) → p.held ≡ b → (full ps ≡ false → full (drop_due now ps) ≡ false) → full (drop_due now (p ∷ ps)) ≡ false
    go true h ih = by-due now p (λ d q. rw q) (λ d q. rw (q, h, ih (rw h at e)))
    go false h ih = by-due now p (λ d q. rw q) (λ d q. rw (q, h))

-- what the state has for s stays, or it has nothing, and then there is a free place
pub kept-or_room : (now s : ℕ) (ps : List Place) (pool : List ℕ) → Good ps →
    (unfinished_in (drop_due now ps) pool s ≡ unfinished_in ps pool s) ⊎ ((unfinished_in (drop_due now ps) pool s ≡ blank) × (full (drop_due now ps) ≡ false))
unfolding drop_due
kept-or_room now s [] pool g = inl refl
kept-or_room now s (p ∷ ps) pool g = go (is_for s p) refl (kept-or_room now s ps (drop 72 pool) g.1)
  where
    rest : is_for s p ≡ true → unfinished_in (drop_due now ps) (drop 72 pool) s ≡ blank
    rest e = blank_of s (drop_due now ps) (drop 72 pool) (none-due now s ps (rw (is_for-source s p e) at (g.0 (is_for-held s p e)).alone))

    go : (b : Bool) → is_for s p ≡ b →
        (unfinished_in (drop_due now ps) (drop 72 pool) s ≡ unfinished_in ps (drop 72 pool) s) ⊎ ((unfinished_in (drop_due now ps) (drop 72 pool) s ≡ blank) × (full (drop_due now ps) ≡ false)) →
        (unfinished_in (drop_due now (p ∷ ps)) pool s ≡ unfinished_in (p ∷ ps) pool s) ⊎ ((unfinished_in (drop_due now (p ∷ ps)) pool s ≡ blank) × (full (drop_due now (p ∷ ps)) ≡ false))
    go true e ih =
        by-due now p
        (λ d q. inr (rw (q, is_for-free s free_place refl) (rest e), rw q))
        (λ d q. inl (rw (q, e)))
    go false e (inl same) = inl (rw (after-not now s p e, e) same)
    go false e (inr (none, room)) = inr (rw (after-not now s p e) none, rw room (and-false (after_tick now p).held))

-- where the last accepted frame of s is at most 3,000 ticks back, what the state has for it stays
pub unfinished-young : (now s : ℕ) (ps : List Place) (pool : List ℕ) → Each (λ (p : Place). is_for s p ≡ true → age now p.tick ≤ 3000) ps →
    unfinished_in (drop_due now ps) pool s ≡ unfinished_in ps pool s
unfolding drop_due
unfinished-young now s [] pool y = refl
unfinished-young now s (p ∷ ps) pool y = go (is_for s p) refl (unfinished-young now s ps (drop 72 pool) y.1)
  where
    go : (b : Bool) → is_for s p ≡ b → unfinished_in (drop_due now ps) (drop 72 pool) s ≡ unfinished_in ps (drop 72 pool) s →
        unfinished_in (drop_due now (p ∷ ps)) pool s ≡ unfinished_in (p ∷ ps) pool s
    go true e ih = by-due now p (λ d q. absurd (omega (arith, due_age now p d, y.0 e))) (λ d q. rw (q, e))
    go false e ih = rw (after-not now s p e, e) ih

-- a place that is kept is for whom it was
pub kept_for : (s : ℕ) (q p : Place) → Kept q p → is_for s p ≡ true → is_for s q ≡ true
kept_for s q p k u = is_for-self s q (sym k.held ∙ is_for-held s p u) (sym k.source ∙ is_for-source s p u)

-- after an accepted frame of s at the tick `now`, what is kept for s has that tick
pub turned_tick : (now s : ℕ) (accepted : Bool) (qs ps : List Place) → accepted ≡ true → AllTurned now s accepted qs ps →
    Each (λ (p : Place). is_for s p ≡ true → p.tick ≡ now) ps
turned_tick now s accepted [] [] a t = tt
turned_tick now s accepted [] (p ∷ ps) a t = absurd t
turned_tick now s accepted (q ∷ qs) [] a t = absurd t
turned_tick now s accepted (q ∷ qs) (p ∷ ps) a t = (go t.0, turned_tick now s accepted qs ps a t.1)
  where
    go : Turned now s accepted q p → is_for s p ≡ true → p.tick ≡ now
    go (inl (k, n)) u = clash (sym a ∙ n (kept_for s q p k u))
    go (inr (inl e)) u = clash (sym u ∙ is_for-free s p e)
    go (inr (inr (e, v, b))) u = e

-- ---- ticks and times

-- the wrapping age is the true age, since 3,000 and 62,000 are together less than 65,536
pub true-age : (last now t : ℕ) → last ≤ now → now ≤ last + 3000 → Follows now t → last + age (tick_at t) (tick_at last) ≡ t
true-age last now t p y f = omega (arith, f.0, f.1)

-- the place p has the tick of a time at which its source's last frame was accepted, which is P; `now` is not more than 3,000 after it
pub record Dated (P : ℕ → Type 0) (last : ℕ → ℕ) (now : ℕ) (p : Place) : Type 0 where
  pub tick : p.tick ≡ tick_at (last p.source)
  pub past : last p.source ≤ now
  pub young : now ≤ last p.source + 3000
  pub kept : P (last p.source)

-- where any time will do
abbrev pub AnyTime : ℕ → Type 0
AnyTime t = Unit {0}

-- the same of each place that is held
abbrev pub AllDated : (ℕ → Type 0) → (ℕ → ℕ) → ℕ → List Place → Type 0
AllDated P last now ps = Each (λ (p : Place). p.held ≡ true → Dated P last now p) ps

-- the same of each place of s
abbrev pub DatedFor : (ℕ → Type 0) → (ℕ → ℕ) → ℕ → ℕ → List Place → Type 0
DatedFor P last now s ps = Each (λ (p : Place). is_for s p ≡ true → Dated P last now p) ps

pub dated-for : (P : ℕ → Type 0) (last : ℕ → ℕ) (now s : ℕ) (ps : List Place) → AllDated P last now ps → DatedFor P last now s ps
dated-for P last now s [] d = tt
dated-for P last now s (p ∷ ps) d = (λ h. d.0 (is_for-held s p h), dated-for P last now s ps d.1)

-- where no place is held, each that is held has any time
pub none-dated : (P : ℕ → Type 0) (last : ℕ → ℕ) (now : ℕ) (ps : List Place) → ((s : ℕ) → has_place s ps ≡ false) → AllDated P last now ps
none-dated P last now [] e = tt
none-dated P last now (p ∷ ps) e =
    (λ h. clash (rw (is_for-self p.source p h refl) at (e p.source)), none-dated P last now ps (λ s. none_tail s p ps (e s)))

-- a call that may follow on `now` follows on it where a place is held; where none is, all of it is as if the one before came at the same time
pub caught_up : {X : Type 0} (now t : ℕ) (book : ℕ → Book) (ps : List Place) → ((s : ℕ) → is_unfinished (book s) ≡ has_place s ps) → MayFollow now (moment t book) →
    (Follows now t → X) → (Follows t t → ((s : ℕ) → has_place s ps ≡ false) → X) → X
caught_up now t book ps same m some none = go ps (λ s e. m.1 s (same s ∙ e)) some none
  where
    go : {X : Type 0} (ps : List Place) → ((s : ℕ) → has_place s ps ≡ true → Near now t) → (Follows now t → X) → (Follows t t → ((s : ℕ) → has_place s ps ≡ false) → X) → X
    go [] near some none = none (omega arith, omega arith) (λ s. refl)
    go (p ∷ ps) near some none =
        by-test p.held
        (λ h. some (m.0, near p.source (rw (is_for-self p.source p h refl))))
        (λ h. go ps (λ s e. near s (rw (is_for-free s p h) e)) some (λ f n. none f (λ s. rw (is_for-free s p h) (n s))))

module _ (P : ℕ → Type 0) (last : ℕ → ℕ) (now t : ℕ) (follows : Follows now t) where
  pub age-is : (p : Place) → Dated P last now p → last p.source + age (tick_at t) p.tick ≡ t
  age-is p d = rw d.tick (true-age (last p.source) now t d.past d.young follows)

  -- due by the tick is old by the time
  pub due_old : (p : Place) → p.held ≡ true → Dated P last now p → is_due (tick_at t) p ≡ ltb (last p.source + 3000) t
  due_old p h d = is-due (tick_at t) p h ∙ go (ltb (last p.source + 3000) t) refl
    where
      go : (b : Bool) → ltb (last p.source + 3000) t ≡ b → ltb 3000 (age (tick_at t) p.tick) ≡ b
      go true e = lt-ltb 3000 (age (tick_at t) p.tick) (omega (arith, age-is p d, ltb-true (last p.source + 3000) t e))
      go false e = le-ltb 3000 (age (tick_at t) p.tick) (omega (arith, age-is p d, ltb-false (last p.source + 3000) t e))

  -- what is left is not more than 3,000 old
  pub dated-due : (ps : List Place) → AllDated P last now ps → AllDated P last t (drop_due (tick_at t) ps)
  unfolding drop_due
  dated-due [] d = tt
  dated-due (p ∷ ps) d =
      by-due (tick_at t) p
      (λ e q. rw q (λ h. clash (sym h), dated-due ps d.1))
      (λ e q. rw q (
        λ h. let x = d.0 h in
            record {
              tick = x.tick;
              past = omega (arith, x.past, follows.0);
              young = ltb-false (last p.source + 3000) t (sym (due_old p h x) ∙ e);
              kept = x.kept;
            },
        dated-due ps d.1,
      ))

  -- what the state has for s after the tick
  pub unfinished-due : (s : ℕ) (ps : List Place) (pool : List ℕ) → Good ps → DatedFor P last now s ps →
      unfinished_in (drop_due (tick_at t) ps) pool s ≡ cond (ltb (last s + 3000) t) blank (unfinished_in ps pool s)
  unfolding drop_due
  unfinished-due s [] pool g d = go (ltb (last s + 3000) t)
    where
      go : (b : Bool) → blank ≡ cond b blank blank
      go true = refl
      go false = refl
  unfinished-due s (p ∷ ps) pool g d = go (is_for s p) refl (unfinished-due s ps (drop 72 pool) g.1 d.1)
    where
      old : is_for s p ≡ true → is_due (tick_at t) p ≡ ltb (last s + 3000) t
      old e = due_old p (is_for-held s p e) (d.0 e) ∙ ap (λ (x : ℕ). ltb (last x + 3000) t) (is_for-source s p e)

      rest : is_for s p ≡ true → unfinished_in (drop_due (tick_at t) ps) (drop 72 pool) s ≡ blank
      rest e = blank_of s (drop_due (tick_at t) ps) (drop 72 pool) (none-due (tick_at t) s ps (rw (is_for-source s p e) at (g.0 (is_for-held s p e)).alone))

      go : (b : Bool) → is_for s p ≡ b → unfinished_in (drop_due (tick_at t) ps) (drop 72 pool) s ≡ cond (ltb (last s + 3000) t) blank (unfinished_in ps (drop 72 pool) s) →
          unfinished_in (drop_due (tick_at t) (p ∷ ps)) pool s ≡ cond (ltb (last s + 3000) t) blank (unfinished_in (p ∷ ps) pool s)
      go true e ih =
          by-due (tick_at t) p
          (λ u q. rw (q, is_for-free s free_place refl, ← old e, u) (rest e))
          (λ u q. rw (q, ← old e, u, e))
      go false e ih = rw (after-not (tick_at t) s p e, e) ih

-- after a frame of s at the time t: `after` gives the times as they are then
module _ (P : ℕ → Type 0) (last after : ℕ → ℕ) (t s : ℕ) (accepted : Bool) (own : accepted ≡ true → (after s ≡ t) × P t)
    (else : (x : ℕ) → (s ≡ x → accepted ≡ false) → after x ≡ last x) where
  turned_dated : (q p : Place) → (q.held ≡ true → Dated P last t q) → Turned (tick_at t) s accepted q p → p.held ≡ true → Dated P after t p
  turned_dated q p d (inl (k, n)) h =
      let u : q.held ≡ true = sym k.held ∙ h in
      let x = d u in
      let y : last p.source ≡ after p.source = sym (else p.source (λ m. n (is_for-self s q u (sym k.source ∙ sym m)))) in
      let z : last q.source ≡ after p.source = ap last (sym k.source) ∙ y in
      record { tick = k.tick ∙ x.tick ∙ ap tick_at z; past = rw (← z) x.past; young = rw (← z) x.young; kept = rw (← z) x.kept }
  turned_dated q p d (inr (inl e)) h = clash (sym h ∙ e)
  turned_dated q p d (inr (inr (e, v, a))) h =
      let z : after p.source ≡ t = ap after v ∙ (own a).0 in
      record { tick = e ∙ ap tick_at (sym z); past = rw z (omega arith); young = rw z (omega arith); kept = rw z (own a).1 }

  pub all-dated : (qs ps : List Place) → AllDated P last t qs → AllTurned (tick_at t) s accepted qs ps → AllDated P after t ps
  all-dated [] [] d a = tt
  all-dated [] (p ∷ ps) d a = absurd a
  all-dated (q ∷ qs) [] d a = absurd a
  all-dated (q ∷ qs) (p ∷ ps) d a = (turned_dated q p d.0 a.0, all-dated qs ps d.1 a.1)
