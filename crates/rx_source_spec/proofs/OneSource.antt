-- One tool and its book. The invariant, of the source s alone: the state has eight places and 576 bytes, has for s what its book holds, and keeps
-- in each place of s the tick of the time that its book has.
-- Assumes nothing.
use Prim.Native.Nat.{ℕ, ◌+◌}
use mathlib.Core.Path.{◌≡◌, refl, sym, ap, ◌∙◌, subst}
use mathlib.Core.Logic.{◌≢◌, ◌⊎◌, inl, inr}
use mathlib.Core.Bool.{Bool, true, false, cond}
use mathlib.Core.List.{List, [], ◌∷◌, ◌++◌, map, append_assoc, append-nil}
use native.Mathlib.Omega.{arith}
use lib.Dec.{ltb, eqb}
use lib.ListN.{length}
use borrow.Author.Tests.{eqb-true, eqb-false, ne_eqb, ltb-false}
use Rattle.buffer.proofs.Choice.{clash, by-test}
use Rattle.can_frame.specs.declared.Role.{Role}
use Rattle.can_frame.specs.declared.Role.TheVariants.{Ignored, Single, First, Middle, Last}
use Rattle.can_frame.specs.declared.TransportRefusal.{TransportRefusal}
use Rattle.can_frame.specs.declared.TransportRefusal.TheVariants.{OutOfOrder, TemporaryError, BufferUnavailable}
use Rattle.can_frame.specs.Frame.{CanFrame, source_of, role_of}
use Rattle.rx_place_spec.specs.declared.Place.{Place}
use Rattle.rx_place_spec.specs.Place.{free_place}
use Rattle.rx_place_spec.specs.Ticks.{tick_at, drop_due}
use Rattle.rx_spec.specs.Books.{Book, blank, holds, swallowing, is_unfinished, Event, ignored, no_answer, refuse, finish, Entry, entry, fits, book_rule, enter_frame}
use Rattle.rx_spec.specs.Times.{Input, frame_input, lone_tick, Timed, Follows, TimelyAfter, Timely, DatedBook, is_accepted, hear_time, hear_input, book_of, input_event}
use Rattle.rx_place_spec.specs.State.{State}
use Rattle.rx_spec.specs.Reception.{is_for, unfinished_for, has_place, full, sound, at_tick, Joined, join_sound}
use Rattle.rx_spec.specs.Order.{transport_refusal, FrameResult, answer_event, handle_input, run_calls, times_of, keep, join_at, is_caller_error, Unrefused}
use Rattle.rx_source_spec.specs.OneSource.{FreshFor, is_from, Admitted, ByItsBook, TurnedAway, OneSource, JoinOneSource, OneRejection}
use Rattle.rx_spec.proofs.PlaceLaws.{is_for-held, is_for-source, is_for-free, is_for-self, sound-good, blank_none, none-head, none_tail}
use Rattle.rx_spec.proofs.TurnedLaws.{Turned, AllTurned}
use Rattle.rx_spec.proofs.StepLaws.{Sized, Step, entry_of, with_room}
use Rattle.rx_spec.proofs.DropLaws.{AnyTime, Dated, DatedFor, due_old, by-due, kept_for, sized_due, unfinished-due}
use Rattle.rx_spec.proofs.InputLaws.{taken, input-is, frame_step, answered-state, join-unrefused}
use Rattle.rx_spec.proofs.Order.{book-next}

-- ---- the places of one source

-- each place of s has the tick of the time `last`, and `now` is not more than 3,000 after it
abbrev Own : ℕ → ℕ → ℕ → List Place → Type 0
Own s last now ps = DatedFor AnyTime (λ x. last) now s ps

none-own : (s last now : ℕ) (ps : List Place) → has_place s ps ≡ false → Own s last now ps
none-own s last now [] e = tt
none-own s last now (p ∷ ps) e = (λ h. clash (sym h ∙ none-head s p ps e), none-own s last now ps (none_tail s p ps e))

-- after the tick of the time t
own-due : (s last now t : ℕ) → Follows now t → (ps : List Place) → Own s last now ps → Own s last t (drop_due (tick_at t) ps)
unfolding drop_due
own-due s last now t follows [] d = tt
own-due s last now t follows (p ∷ ps) d =
    by-due (tick_at t) p
    (λ e q. rw q (λ h. clash (sym h ∙ is_for-free s free_place refl), own-due s last now t follows ps d.1))
    (λ e q. rw q (
      λ h. let x = d.0 h in
          record {
            tick = x.tick;
            past = omega (arith, x.past, follows.0);
            young = ltb-false (last + 3000) t (sym (due_old AnyTime (λ y. last) now t follows p (is_for-held s p h) x) ∙ e);
            kept = tt;
          },
      own-due s last now t follows ps d.1,
    ))

-- after a frame of x at the time t, accepted or not: `after` is the time that the book of s then has
module _ (s x last after t : ℕ) (accepted : Bool) (own : x ≡ s → accepted ≡ true → after ≡ t) (else : (x ≡ s → accepted ≡ false) → after ≡ last) where
  own-turned : (q p : Place) → (is_for s q ≡ true → Dated AnyTime (λ y. last) t q) → Turned (tick_at t) x accepted q p → is_for s p ≡ true → Dated AnyTime (λ y. after) t p
  own-turned q p d (inl (k, n)) h =
      let u : is_for s q ≡ true = kept_for s q p k h in
      let y = d u in
      let z : last ≡ after = sym (else (λ e. n (is_for-self x q (is_for-held s q u) (is_for-source s q u ∙ sym e)))) in
      record { tick = k.tick ∙ y.tick ∙ ap tick_at z; past = rw (← z) y.past; young = rw (← z) y.young; kept = tt }
  own-turned q p d (inr (inl e)) h = clash (sym h ∙ is_for-free s p e)
  own-turned q p d (inr (inr (e, v, a))) h =
      let z : after ≡ t = own (sym v ∙ is_for-source s p h) a in
      record { tick = e ∙ ap tick_at (sym z); past = rw z (omega arith); young = rw z (omega arith); kept = tt }

  all_own : (qs ps : List Place) → Own s last t qs → AllTurned (tick_at t) x accepted qs ps → Own s after t ps
  all_own [] [] d a = tt
  all_own [] (p ∷ ps) d a = absurd a
  all_own (q ∷ qs) [] d a = absurd a
  all_own (q ∷ qs) (p ∷ ps) d a = (own-turned q p d.0 a.0, all_own qs ps d.1 a.1)

-- ---- 0x2020

-- why a frame is refused with 0x2020
refused_first : (f : Bool) (v : Role) (d : List ℕ) (b : Book) → (entry_of f v d b).event ≡ refuse BufferUnavailable → (v ≡ First) × (b ≡ blank) × (f ≡ true)
refused_first true First d blank e = (refl, refl, refl)
refused_first false First d blank e = absurd (cc)
refused_first f First d (holds b) e = absurd (cc)
refused_first f First d swallowing e = absurd (cc)
refused_first f Ignored d b e = absurd (cc)
refused_first f Single d blank e = absurd (cc)
refused_first f Single d (holds b) e = absurd (cc)
refused_first f Single d swallowing e = absurd (cc)
refused_first f Middle d blank e = absurd (cc)
refused_first f Middle d (holds b) e = absurd (go (eqb (length d) 0) (fits b d) e)
  where
    go : (z y : Bool) → (cond z (entry swallowing (refuse OutOfOrder)) (cond y (entry (holds (b ++ d)) no_answer) (entry swallowing (refuse TemporaryError)))).event ≡ refuse BufferUnavailable → ⊥
    go true y e = absurd (cc)
    go false true e = absurd (cc)
    go false false e = absurd (cc)
refused_first f Middle d swallowing e = absurd (cc)
refused_first f Last d blank e = absurd (cc)
refused_first f Last d (holds b) e = absurd (go (fits b d) e)
  where
    go : (y : Bool) → (cond y (entry blank (finish (b ++ d))) (entry blank (refuse TemporaryError))).event ≡ refuse BufferUnavailable → ⊥
    go true e = absurd (cc)
    go false e = absurd (cc)
refused_first f Last d swallowing e = absurd (cc)

-- whether it is
is-it : (e : Event) → (e ≡ refuse BufferUnavailable) ⊎ (e ≢ refuse BufferUnavailable)
is-it ignored = inr (λ q. cc)
is-it no_answer = inr (λ q. cc)
is-it (refuse BufferUnavailable) = inl refl
is-it (refuse OutOfOrder) = inr (λ q. cc)
is-it (refuse TemporaryError) = inr (λ q. cc)
is-it (finish d) = inr (λ q. cc)

-- ---- one call

record Agrees (s : ℕ) (st : State) (now : ℕ) (b : DatedBook) : Type 0 where
  sized : Sized st
  same : unfinished_for st s ≡ b.book
  dated : Own s b.last now st.places

module _ (alias s : ℕ) (st : State) (now t : ℕ) (b : DatedBook) (inv : Agrees s st now b) (follows : Follows now t) (ok : sound st.places ≡ true) where
  abbrev mid : State
  mid = at_tick (tick_at t) st

  at_time : Agrees s mid t (hear_time t b)
  at_time =
      record {
        sized = sized_due (tick_at t) st inv.sized;
        same = unfinished-due AnyTime (λ x. b.last) now t follows s st.places st.pool (sound-good st.places ok) inv.dated
            ∙ ap (cond (ltb (b.last + 3000) t) blank) inv.same;
        dated = own-due s b.last now t follows st.places inv.dated;
      }

  module _ (f : CanFrame) where
    abbrev x : ℕ
    x = source_of f.header

    abbrev j : Joined
    j = taken alias (tick_at t) st (frame_input f)

    abbrev then : DatedBook
    then = hear_input alias s t (frame_input f) (hear_time t b)

    abbrev role : Role
    role = role_of alias f.header (length f.payload)

    stepped : Step (tick_at t) mid x j (entry_of (full mid.places) role f.payload (unfinished_for mid x))
    stepped = frame_step alias (tick_at t) f st (sound-good st.places ok) inv.sized

    -- of another source
    frame-else : x ≢ s → Agrees s j.state t then
    frame-else n =
        let e : then ≡ hear_time t b = rw (ne_eqb x s n) in
        subst (λ (y : DatedBook). Agrees s j.state t y) (sym e)
        (record {
          sized = stepped.sized;
          same = stepped.else s n ∙ at_time.same;
          dated = all_own s x b.last b.last t (is_accepted j.event) (λ e a. absurd (n e)) (λ a. refl) mid.places j.state.places at_time.dated stepped.turned;
        })

    -- of s, where it is not refused with 0x2020
    module _ (e : eqb x s ≡ true) (admitted : j.event ≢ refuse BufferUnavailable) where
      abbrev entered : Entry
      entered = enter_frame alias f (hear_time t b).book

      room : (v : Role) (c : Book) → (entry_of (full mid.places) v f.payload c).event ≢ refuse BufferUnavailable → v ≡ First → c ≡ blank → full mid.places ≡ false
      room v c a p q = by-test (full mid.places) (λ h. absurd (a (rw (p, q, h)))) (λ h. h)

      by-book : Step (tick_at t) mid x j entered
      by-book =
          subst (λ (y : Entry). Step (tick_at t) mid x j y)
          (with_room (full mid.places) role f.payload (unfinished_for mid x) (room role (unfinished_for mid x) (λ y. admitted (stepped.event ∙ y)))
          ∙ ap (λ (y : Book). enter_frame alias f y) (ap (unfinished_for mid) (eqb-true x s e) ∙ at_time.same))
          stepped

      frame-own : Agrees s j.state t then
      frame-own =
          let z : then ≡ record { book = entered.book; last = cond (is_accepted entered.event) t b.last } = rw e in
          let a : is_accepted entered.event ≡ is_accepted j.event = ap is_accepted (sym by-book.event) in
          subst (λ (y : DatedBook). Agrees s j.state t y) (sym z)
          (record {
            sized = by-book.sized;
            same = ap (unfinished_for j.state) (sym (eqb-true x s e)) ∙ by-book.own;
            dated = all_own s x b.last (cond (is_accepted entered.event) t b.last) t (is_accepted j.event)
                (λ q y. rw (a, y)) (λ n. rw (a, n (eqb-true x s e))) mid.places j.state.places at_time.dated by-book.turned;
          })

    -- of s, where it is
    module _ (e : eqb x s ≡ true) (refused : j.event ≡ refuse BufferUnavailable) where
      own-none : unfinished_for mid x ≡ (hear_time t b).book
      own-none = ap (unfinished_for mid) (eqb-true x s e) ∙ at_time.same

      -- why it is
      why : (role ≡ First) × (unfinished_for mid x ≡ blank) × (full mid.places ≡ true)
      why = refused_first (full mid.places) role f.payload (unfinished_for mid x) (sym stepped.event ∙ refused)

      nothing-changed : j.state ≡ mid
      unfolding join_sound
      nothing-changed = rw (why.0, why.1, why.2)

      opens-by-book : is_unfinished then.book ≡ true
      opens-by-book = rw (e, why.0, ← own-none, why.1)

      left-blank : unfinished_for j.state s ≡ blank
      left-blank = ap (λ (y : State). unfinished_for y s) nothing-changed ∙ ap (unfinished_for mid) (sym (eqb-true x s e)) ∙ why.1

-- by what a call brings
record Next (alias s : ℕ) (past : List Timed) (c : Timed) (j : Joined) : Type 0 where
  agrees : Agrees s j.state c.time (book_of alias (past ++ c ∷ []) s)
  event : is_from s c.input ≡ true → j.event ≡ input_event alias past c.time c.input

module _ (alias s : ℕ) (past : List Timed) (st : State) (now t : ℕ) (inv : Agrees s st now (book_of alias past s)) (follows : Follows now t) (ok : sound st.places ≡ true) where
  moved : (i : Input) (left : State) → Agrees s left t (hear_input alias s t i (hear_time t (book_of alias past s))) → Agrees s left t (book_of alias (past ++ record { time = t; input = i } ∷ []) s)
  moved i left a = subst (λ (y : DatedBook). Agrees s left t y) (sym (book-next alias past (record { time = t; input = i }) s)) a

  next : (i : Input) → (is_from s i ≡ true → (taken alias (tick_at t) st i).event ≢ refuse BufferUnavailable) →
      Next alias s past (record { time = t; input = i }) (taken alias (tick_at t) st i)
  next (frame_input f) a =
      by-test (eqb (source_of f.header) s)
      (λ e. record {
        agrees = moved (frame_input f) _ (frame-own alias s st now t (book_of alias past s) inv follows ok f e (a e));
        event = λ q. (by-book alias s st now t (book_of alias past s) inv follows ok f e (a e)).event
            ∙ ap (λ (y : ℕ). (enter_frame alias f (hear_time t (book_of alias past y)).book).event) (sym (eqb-true (source_of f.header) s e));
      })
      (λ e. record {
        agrees = moved (frame_input f) _ (frame-else alias s st now t (book_of alias past s) inv follows ok f (eqb-false (source_of f.header) s e));
        event = λ q. clash (sym q ∙ e);
      })
  next lone_tick a = record { agrees = moved lone_tick _ (at_time alias s st now t (book_of alias past s) inv follows ok); event = λ q. clash (sym q) }

  -- s is refused with 0x2020
  record Away (left : State) (then : DatedBook) : Type 0 where
    none : (hear_time t (book_of alias past s)).book ≡ blank
    opens : is_unfinished then.book ≡ true
    every_held : full left.places ≡ true
    start : FreshFor s left

  turned : (i : Input) → is_from s i ≡ true → (taken alias (tick_at t) st i).event ≡ refuse BufferUnavailable →
      Away (taken alias (tick_at t) st i).state (book_of alias (past ++ record { time = t; input = i } ∷ []) s)
  turned (frame_input f) e q =
      let y = why alias s st now t (book_of alias past s) inv follows ok f e q in
      let z = nothing-changed alias s st now t (book_of alias past s) inv follows ok f e q in
      let m = at_time alias s st now t (book_of alias past s) inv follows ok in
      record {
        none = sym (own-none alias s st now t (book_of alias past s) inv follows ok f e q) ∙ y.1;
        opens = rw (book-next alias past (record { time = t; input = frame_input f }) s) (opens-by-book alias s st now t (book_of alias past s) inv follows ok f e q);
        every_held = rw z y.2;
        start = record {
          eight = rw z m.sized.eight;
          bytes = rw z m.sized.bytes;
          nothing-unfinished = left-blank alias s st now t (book_of alias past s) inv follows ok f e q;
        };
      }
  turned lone_tick e q = clash (sym e)

-- ---- the calls

module _ {C H W A : Type 0} (heard : C → Timed) (handle : W → List ℕ → A × W) (alias : ℕ) (one : State → W → C → FrameResult H W A)
    (same : (st : State) (w : W) (c : C) → is_caller_error (one st w c).answer ≡ false →
    (sound st.places ≡ true) × (one st w c ≡ handle_input handle alias st w (heard c).time (heard c).input)) (s : ℕ) where
  -- a call that is not refused
  module _ (past : List Timed) (now : ℕ) (st : State) (w : W) (c : C) (inv : Agrees s st now (book_of alias past s)) (follows : Follows now (heard c).time)
      (h : is_caller_error (one st w c).answer ≡ false) where
    abbrev at : ℕ
    at = (heard c).time

    abbrev came : Joined
    came = taken alias (tick_at at) st (heard c).input

    -- B7 lets the state pass, and the call does what its input does
    ok : sound st.places ≡ true
    ok = (same st w c h).0

    given : one st w c ≡ answer_event handle came.state w came.event
    given = (same st w c h).1 ∙ input-is H handle alias st w at (heard c).input

    left : (one st w c).state ≡ came.state
    left = ap (λ (r : FrameResult H W A). r.state) given ∙ answered-state H handle came.state w came.event

    refused_is : came.event ≡ refuse BufferUnavailable → (one st w c).answer ≡ transport_refusal BufferUnavailable
    refused_is q = ap (λ (r : FrameResult H W A). r.answer) (given ∙ ap (answer_event handle came.state w) q)

    -- it does not refuse s with 0x2020
    module _ (a : is_from s (heard c).input ≡ true → came.event ≢ refuse BufferUnavailable) where
      went : Next alias s past (heard c) came
      went = next alias s past st now at inv follows ok (heard c).input a

      after : Agrees s (one st w c).state at (book_of alias (past ++ heard c ∷ []) s)
      after = subst (λ (y : State). Agrees s y at (book_of alias (past ++ heard c ∷ []) s)) (sym left) went.agrees

      by-book-of : ByItsBook handle alias s past (heard c) w (one st w c)
      by-book-of =
          record {
            answer = λ e. given ∙ ap (answer_event handle came.state w) (went.event e)
                ∙ ap (λ (y : State). answer_event handle y w (input_event alias past at (heard c).input)) (sym left);
            unfinished = after.same;
          }

    -- it does
    away : is_from s (heard c).input ≡ true → came.event ≡ refuse BufferUnavailable → TurnedAway handle alias s past (heard c) w (one st w c)
    away e q =
        let x = turned alias s past st now at inv follows ok (heard c).input e q in
        record {
          blank-before = x.none;
          unfinished-now = x.opens;
          answer = given ∙ ap (answer_event handle came.state w) q
              ∙ ap (λ (y : State). answer_event handle y w (refuse BufferUnavailable)) (sym left);
          eight-others = rw left x.every_held;
          nothing-opened = rw left x.start;
        }

    call : ByItsBook handle alias s past (heard c) w (one st w c) ⊎ TurnedAway handle alias s past (heard c) w (one st w c)
    call = by-test (is_from s (heard c).input) (λ e. go e (is-it came.event)) (λ e. inl (by-book-of (λ q. clash (sym q ∙ e))))
      where
        go : is_from s (heard c).input ≡ true → (came.event ≡ refuse BufferUnavailable) ⊎ (came.event ≢ refuse BufferUnavailable) →
            ByItsBook handle alias s past (heard c) w (one st w c) ⊎ TurnedAway handle alias s past (heard c) w (one st w c)
        go e (inl q) = inr (away e q)
        go e (inr n) = inl (by-book-of (λ q. n))

  abbrev Says : List Timed → C → State → W → Type 0
  Says past c st w = ByItsBook handle alias s past (heard c) w (one st w c) ⊎ TurnedAway handle alias s past (heard c) w (one st w c)

  all : (ps : List C) (c : C) (past : List Timed) (now : ℕ) (st : State) (w : W) → Agrees s st now (book_of alias past s) → TimelyAfter now (times_of heard (ps ++ c ∷ [])) →
      Unrefused one st w (ps ++ c ∷ []) → Admitted heard one s st w ps → Says (past ++ map heard ps) c (run_calls one st w ps).state (run_calls one st w ps).world
  all [] c past now st w inv k u a = rw append-nil (call past now st w c inv k.0 u.0)
  all (p ∷ ps) c past now st w inv k u a =
      rw append_assoc at
      (all ps c (past ++ heard p ∷ []) (heard p).time (one st w p).state (one st w p).world
      (after past now st w p inv k.0 u.0 (λ e q. a.0 e (refused_is past now st w p inv k.0 u.0 q))) k.1 u.1 a.1)

  -- at the start nothing is unfinished for s, at any time
  started : (st : State) (now : ℕ) → FreshFor s st → Agrees s st now (book_of alias [] s)
  unfolding book_of
  started st now start =
      record {
        sized = record { eight = start.eight; bytes = start.bytes };
        same = start.nothing-unfinished;
        dated = none-own s _ now st.places (blank_none s st.places st.pool start.nothing-unfinished);
      }

  by-its_book : (st : State) (w : W) (past : List C) (c : C) → FreshFor s st → Timely (times_of heard (past ++ c ∷ [])) → Unrefused one st w (past ++ c ∷ []) →
      Admitted heard one s st w past → Says (map heard past) c (run_calls one st w past).state (run_calls one st w past).world
  by-its_book st w [] c start k u a = all [] c [] (heard c).time st w (started st (heard c).time start) ((omega arith, omega arith), k) u a
  by-its_book st w (p ∷ ps) c start k u a =
      all (p ∷ ps) c [] (heard p).time st w (started st (heard p).time start) ((omega arith, omega arith), k) u a

module _ {C H W A : Type 0} (heard : C → Timed) (handle : W → List ℕ → A × W) (alias : ℕ) (one : State → W → C → FrameResult H W A)
    (same : (st : State) (w : W) (c : C) → is_caller_error (one st w c).answer ≡ false →
    (sound st.places ≡ true) × (one st w c ≡ handle_input handle alias st w (heard c).time (heard c).input)) where
  pub one-source : OneSource heard handle alias one
  one-source s st w past c start k u a = by-its_book heard handle alias one same s st w past c start k u a

pub join-one-source : JoinOneSource
join-one-source alias = one-source (λ (c : Timed). c) keep alias (join_at alias) (join-unrefused alias)

-- ---- one rejection

-- a frame other than a Last that is refused to a book that holds a datagram leaves it swallowing
begins : (v : Role) (d b : List ℕ) (refusal : TransportRefusal) → v ≢ Last → (book_rule v d (holds b)).event ≡ refuse refusal → (book_rule v d (holds b)).book ≡ swallowing
begins Ignored d b refusal l e = absurd (cc)
begins Single d b refusal l e = refl
begins First d b refusal l e = refl
begins Middle d b refusal l e = go (eqb (length d) 0) refl (fits b d) refl
  where
    go : (z : Bool) → eqb (length d) 0 ≡ z → (y : Bool) → fits b d ≡ y → (book_rule Middle d (holds b)).book ≡ swallowing
    go true q y p = rw q
    go false q true p = let x : no_answer ≡ refuse refusal = rw (q, p) at e in absurd (cc)
    go false q false p = rw (q, p)
begins Last d b refusal l e = absurd (l refl)

pub one-rejection : OneRejection
one-rejection = record { begins = begins; middle = λ d. refl; last = λ d. refl; single = λ d. refl; first = λ d. refl }
