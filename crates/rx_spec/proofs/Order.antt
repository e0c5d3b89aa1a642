-- Demand 3, the order statement. The invariant: the state is sound, has eight places and 576 bytes, has for each source what its book holds,
-- and keeps in each place that is held the tick of the time that its source's book has.
-- Assumes nothing.
use Prim.Native.Nat.{ℕ, suc, ◌+◌, ◌≤◌}
use mathlib.Core.Path.{◌≡◌, refl, sym, ap, ◌∙◌, subst, fun_ext}
use mathlib.Core.Logic.{◌≢◌}
use mathlib.Core.Bool.{Bool, true, false, cond}
use mathlib.Core.List.{List, [], ◌∷◌, ◌++◌, map, append_assoc, append-nil}
use native.Mathlib.Omega.{arith}
use lib.Dec.{ltb, eqb}
use lib.ListN.{length, take}
use borrow.Author.Tests.{eqb-true, eqb-false, eq-eqb, ne_eqb}
use Rattle.buffer.specs.Buffer.{Each}
use Rattle.can_frame.specs.declared.Role.TheVariants.{First}
use Rattle.can_frame.specs.Frame.{CanFrame, source_of, role_of}
use Rattle.can_frame.proofs.Laws.{source-small}
use Rattle.rx_place_spec.specs.Ticks.{tick_at}
use Rattle.rx_spec.specs.Books.{Book, blank, is_unfinished, Event, ignored, no_answer, refuse, finish, Entry, enter_frame}
use Rattle.rx_spec.specs.Times.{Input, frame_input, lone_tick, Timed, Follows, moment, MayFollow, InTimeAfter, DatedBook, is_accepted, hear_time, hear_input, hear_call, hear_calls, book_of, moments_after, input_event, events_after}
use Rattle.rx_place_spec.specs.State.{State}
use Rattle.rx_spec.specs.Reception.{unfinished_for, full, sound, at_tick}
use Rattle.rx_spec.specs.Order.{CallAnswer, ignored_frame, nothing, transport_refusal, handled, FrameResult, answer_event, handle_input, CallsResult, answer_first, run_calls, datagrams_of, answers_to, world_after, unfinished_below, Fresh, OrderStatement, keep, join_at, JoinOrder}
use Rattle.rx_spec.proofs.PlaceLaws.{Good, good-sound, unfinished-is, blank_none, none-good}
use Rattle.rx_spec.proofs.CountLaws.{not_full}
use Rattle.rx_spec.proofs.StepLaws.{Sized, Step, with_room}
use Rattle.rx_spec.proofs.DropLaws.{AnyTime, AllDated, dated-for, none-dated, caught_up, good-due, sized_due, dated-due, unfinished-due, all-dated}
use Rattle.rx_spec.proofs.InputLaws.{fresh-sized, taken, input-is, frame_step, join-passed}

-- ---- the books

hear_append : (alias s : ℕ) (b : DatedBook) (cs ds : List Timed) → hear_calls alias s b (cs ++ ds) ≡ hear_calls alias s (hear_calls alias s b cs) ds
hear_append alias s b [] ds = refl
hear_append alias s b (c ∷ cs) ds = hear_append alias s (hear_call alias s c b) cs ds

pub book-next : (alias : ℕ) (past : List Timed) (c : Timed) (s : ℕ) → book_of alias (past ++ c ∷ []) s ≡ hear_call alias s c (book_of alias past s)
unfolding book_of
book-next alias past c s = hear_append alias s _ past (c ∷ [])

-- ---- one call, at all sources

record Agrees (st : State) (now : ℕ) (book : ℕ → DatedBook) : Type 0 where
  good : Good st.places
  sized : Sized st
  same : (s : ℕ) → unfinished_for st s ≡ (book s).book
  dated : AllDated AnyTime (λ s. (book s).last) now st.places

-- the time that every book hears
module _ (st : State) (now t : ℕ) (book : ℕ → DatedBook) (inv : Agrees st now book) (follows : Follows now t) where
  heard-time : Agrees (at_tick (tick_at t) st) t (λ s. hear_time t (book s))
  heard-time =
      record {
        good = good-due (tick_at t) st.places inv.good;
        sized = sized_due (tick_at t) st inv.sized;
        same = λ s. unfinished-due AnyTime (λ x. (book x).last) now t follows s st.places st.pool inv.good
            (dated-for AnyTime (λ x. (book x).last) now s st.places inv.dated)
            ∙ ap (cond (ltb ((book s).last + 3000) t) blank) (inv.same s);
        dated = dated-due AnyTime (λ x. (book x).last) now t follows st.places inv.dated;
      }

-- a frame, where each book has heard the time
module _ (alias : ℕ) (f : CanFrame) (st : State) (t : ℕ) (book : ℕ → DatedBook) (good : Good st.places) (sized : Sized st)
    (inv : Agrees (at_tick (tick_at t) st) t book)
    (most : unfinished_below 4096 (λ x. (hear_input alias x t (frame_input f) (book x)).book) ≤ 8) where
  abbrev s : ℕ
  s = source_of f.header

  abbrev now : State
  now = at_tick (tick_at t) st

  abbrev then : ℕ → DatedBook
  then x = hear_input alias x t (frame_input f) (book x)

  abbrev entered : Entry
  entered = enter_frame alias f (book s).book

  then_else : (x : ℕ) → s ≢ x → then x ≡ book x
  then_else x n = rw (ne_eqb s x n)

  then_book : (then s).book ≡ entered.book
  then_book = rw (eq-eqb s s refl)

  then_last : (then s).last ≡ cond (is_accepted entered.event) t (book s).last
  then_last = rw (eq-eqb s s refl)

  has_room : role_of alias f.header (length f.payload) ≡ First → unfinished_for now s ≡ blank → full now.places ≡ false
  has_room v b =
      not_full now.places now.pool s (λ x. (then x).book) inv.good inv.sized.eight (blank_none s now.places now.pool b)
      (source-small f.header) (λ x n. ap (λ (d : DatedBook). d.book) (then_else x n) ∙ sym (inv.same x))
      (ap is_unfinished then_book ∙ rw (v, ← inv.same s, b)) most

  stepped : Step (tick_at t) now s (taken alias (tick_at t) st (frame_input f)) entered
  stepped =
      subst (λ (e : Entry). Step (tick_at t) now s (taken alias (tick_at t) st (frame_input f)) e)
      (with_room (full now.places) (role_of alias f.header (length f.payload)) f.payload (unfinished_for now s) has_room
      ∙ ap (λ (b : Book). enter_frame alias f b) (inv.same s))
      (frame_step alias (tick_at t) f st good sized)

  frame_same : (x : ℕ) → unfinished_for (taken alias (tick_at t) st (frame_input f)).state x ≡ (then x).book
  frame_same x = go (eqb s x) refl
    where
      go : (b : Bool) → eqb s x ≡ b → unfinished_for (taken alias (tick_at t) st (frame_input f)).state x ≡ (then x).book
      go true q = subst (λ (y : ℕ). unfinished_for (taken alias (tick_at t) st (frame_input f)).state y ≡ (then y).book) (eqb-true s x q) (stepped.own ∙ sym then_book)
      go false q =
          let n : s ≢ x = eqb-false s x q in
          stepped.else x n ∙ inv.same x ∙ sym (ap (λ (d : DatedBook). d.book) (then_else x n))

  abbrev accepted : Bool
  accepted = is_accepted (taken alias (tick_at t) st (frame_input f)).event

  last-own : (b : Bool) → is_accepted entered.event ≡ b → b ≡ true → (then s).last ≡ t
  last-own b q e = then_last ∙ rw (q, e)

  last_else : (x : ℕ) → (s ≡ x → accepted ≡ false) → (then x).last ≡ (book x).last
  last_else x n = go (eqb s x) refl
    where
      go : (b : Bool) → eqb s x ≡ b → (then x).last ≡ (book x).last
      go true q =
          let e : s ≡ x = eqb-true s x q in
          let a : is_accepted entered.event ≡ false = ap is_accepted (sym stepped.event) ∙ n e in
          subst (λ (y : ℕ). (then y).last ≡ (book y).last) e (then_last ∙ rw a)
      go false q = ap (λ (d : DatedBook). d.last) (then_else x (eqb-false s x q))

  heard-frame : Agrees (taken alias (tick_at t) st (frame_input f)).state t then
  heard-frame =
      record {
        good = stepped.good;
        sized = stepped.sized;
        same = frame_same;
        dated = all-dated AnyTime (λ x. (book x).last) (λ x. (then x).last) t s accepted
            (λ e. (last-own accepted (sym (ap is_accepted stepped.event)) e, tt)) last_else now.places _ inv.dated stepped.turned;
      }

-- a call
record Next (alias : ℕ) (past : List Timed) (c : Timed) (st : State) : Type 0 where
  agrees : Agrees (taken alias (tick_at c.time) st c.input).state c.time (book_of alias (past ++ c ∷ []))
  event : (taken alias (tick_at c.time) st c.input).event ≡ input_event alias past c.time c.input

module _ (alias : ℕ) (past : List Timed) (st : State) (now t : ℕ) (inv : Agrees st now (book_of alias past)) (follows : Follows now t) where
  abbrev Nexts : Input → Type 0
  Nexts i = Next alias past (record { time = t; input = i }) st

  abbrev heard : ℕ → DatedBook
  heard x = hear_time t (book_of alias past x)

  at_time : Agrees (at_tick (tick_at t) st) t heard
  at_time = heard-time st now t (book_of alias past) inv follows

  -- the books after the call are those that heard it
  moved : (i : Input) (left : State) → Agrees left t (λ x. hear_input alias x t i (heard x)) → Agrees left t (book_of alias (past ++ record { time = t; input = i } ∷ []))
  moved i left a =
      record {
        good = a.good;
        sized = a.sized;
        same = λ x. a.same x ∙ ap (λ (d : DatedBook). d.book) (sym (book-next alias past (record { time = t; input = i }) x));
        dated = subst (λ (l : ℕ → ℕ). AllDated AnyTime l t left.places)
            (fun_ext (λ x. ap (λ (d : DatedBook). d.last) (sym (book-next alias past (record { time = t; input = i }) x)))) a.dated;
      }

  next : (i : Input) → unfinished_below 4096 (λ x. (book_of alias (past ++ record { time = t; input = i } ∷ []) x).book) ≤ 8 → Nexts i
  next (frame_input f) most =
      let m : unfinished_below 4096 (λ x. (hear_input alias x t (frame_input f) (heard x)).book) ≤ 8 =
      subst (λ (b : ℕ → Book). unfinished_below 4096 b ≤ 8) (fun_ext (λ x. ap (λ (d : DatedBook). d.book) (book-next alias past (record { time = t; input = frame_input f }) x))) most in
      record {
        agrees = moved (frame_input f) _ (heard-frame alias f st t heard inv.good inv.sized at_time m);
        event = (stepped alias f st t heard inv.good inv.sized at_time m).event;
      }
  next lone_tick most = record { agrees = moved lone_tick _ at_time; event = refl }

-- the same where the call comes any time later and nothing is unfinished
next_call : (alias : ℕ) (past : List Timed) (st : State) (now : ℕ) → Agrees st now (book_of alias past) → (c : Timed) → MayFollow now (moment c.time (λ s. (book_of alias past s).book)) →
    unfinished_below 4096 (λ x. (book_of alias (past ++ c ∷ []) x).book) ≤ 8 → Next alias past c st
next_call alias past st now inv c m most =
    caught_up now c.time (λ s. (book_of alias past s).book) st.places (λ s. ap is_unfinished (sym (inv.same s)) ∙ unfinished-is s st.places st.pool) m
    (λ f. next alias past st now c.time inv f c.input most)
    (λ f n. next alias past st c.time c.time
    (record { good = inv.good; sized = inv.sized; same = inv.same; dated = none-dated AnyTime _ c.time st.places n }) f c.input most)

-- ---- the list of calls

module _ {C H W A : Type 0} (heard : C → Timed) (Fine : C → Type 0) (Fit : W → Type 0) (handle : W → List ℕ → A × W)
    (kept : (w : W) (d : List ℕ) → Fit w → Fit (handle w d).1) (alias : ℕ) (one : State → W → C → FrameResult H W A)
    (same : (st : State) (w : W) (c : C) → sound st.places ≡ true → Fit w → Fine c → one st w c ≡ handle_input handle alias st w (heard c).time (heard c).input) where
  -- what is shown of a list of calls, by what they bring about and the books after them
  record Result (r : CallsResult H W A) (w : W) (es : List Event) (book : ℕ → DatedBook) : Type 0 where
    answers : r.answers ≡ answers_to handle w es
    world : r.world ≡ world_after handle w (datagrams_of es)
    unfinished : (s : ℕ) → unfinished_for r.state s ≡ (book s).book

  behind : {r : CallsResult H W A} {w : W} {es : List Event} {book : ℕ → DatedBook} (e : Event) (a : CallAnswer H A) (v : W) → Result r v es book →
      answers_to handle w (e ∷ es) ≡ a ∷ answers_to handle v es →
      world_after handle w (datagrams_of (e ∷ es)) ≡ world_after handle v (datagrams_of es) → Result (answer_first a r) w (e ∷ es) book
  behind e a v ih p q =
      record { answers = ap (λ (l : List (CallAnswer H A)). a ∷ l) ih.answers ∙ sym p; world = ih.world ∙ sym q; unfinished = ih.unfinished }

  -- the first call, by what it brings about, and the others on what it leaves
  abbrev After : Event → List Event → State → W → List C → (ℕ → DatedBook) → Type 0
  After e es st w cs book =
      Result
      (answer_first (answer_event {H = H} handle st w e).answer (run_calls one (answer_event {H = H} handle st w e).state (answer_event {H = H} handle st w e).world cs))
      w (e ∷ es) book

  first-call : (e : Event) (es : List Event) (st : State) (w : W) (cs : List C) (book : ℕ → DatedBook) → Fit w →
      ((v : W) → Fit v → Result (run_calls one st v cs) v es book) → After e es st w cs book
  first-call ignored es st w cs book t ih = behind ignored ignored_frame w (ih w t) refl refl
  first-call no_answer es st w cs book t ih = behind no_answer nothing w (ih w t) refl refl
  first-call (refuse refusal) es st w cs book t ih = behind (refuse refusal) (transport_refusal refusal) w (ih w t) refl refl
  first-call (finish d) es st w cs book t ih =
      behind (finish d) (handled (handle w d).0) (handle w d).1 (ih (handle w d).1 (kept w d t)) refl refl

  call-is : (st : State) (w : W) (c : C) (e : Event) → Good st.places → Fit w → Fine c → (taken alias (tick_at (heard c).time) st (heard c).input).event ≡ e →
      one st w c ≡ answer_event handle (taken alias (tick_at (heard c).time) st (heard c).input).state w e
  call-is st w c e g t h q =
      same st w c (good-sound st.places g) t h ∙ input-is H handle alias st w (heard c).time (heard c).input
      ∙ ap (answer_event handle (taken alias (tick_at (heard c).time) st (heard c).input).state w) q

  all : (cs : List C) (past : List Timed) (now : ℕ) (st : State) (w : W) → Agrees st now (book_of alias past) → Fit w → Each Fine cs → InTimeAfter now (moments_after alias past (map heard cs)) →
      ((n : ℕ) → unfinished_below 4096 (λ x. (book_of alias (past ++ take n (map heard cs)) x).book) ≤ 8) →
      Result (run_calls one st w cs) w (events_after alias past (map heard cs)) (book_of alias (past ++ map heard cs))
  all [] past now st w inv t h k most = record { answers = refl; world = refl; unfinished = λ s. rw append-nil (inv.same s) }
  all (c ∷ cs) past now st w inv t h k most =
      let i : Timed = heard c in
      let x : Next alias past i st = next_call alias past st now inv i k.0 (most 1) in
      let e : Event = input_event alias past i.time i.input in
      let left : State = (taken alias (tick_at i.time) st i.input).state in
      let es : List Event = events_after alias (past ++ i ∷ []) (map heard cs) in
      let book : ℕ → DatedBook = book_of alias (past ++ i ∷ map heard cs) in
      let ih : (v : W) → Fit v → Result (run_calls one left v cs) v es book =
      λ v u. rw append_assoc at (all cs (past ++ i ∷ []) i.time left v x.agrees u h.1 k.1 (λ n. rw append_assoc (most (suc n)))) in
      subst
      (λ (y : FrameResult H W A). Result (answer_first y.answer (run_calls one y.state y.world cs)) w (e ∷ es) book)
      (sym (call-is st w c e inv.good t h.0 x.event))
      (first-call e es left w cs book t ih)

  -- at the start nothing is unfinished, at any time
  started : (st : State) (now : ℕ) → Fresh st → Agrees st now (book_of alias [])
  unfolding book_of
  started st now start =
      let none : (s : ℕ) → _ = λ s. blank_none s st.places st.pool (start.nothing-unfinished s) in
      record {
        good = none-good st.places none;
        sized = fresh-sized st start;
        same = start.nothing-unfinished;
        dated = none-dated AnyTime _ now st.places none;
      }

  -- calls that give what `handle_input` gives keep the order
  pub order : OrderStatement heard Fine Fit handle alias one
  order st w [] a =
      let r = all [] [] 0 st w (started st 0 a.fresh) a.fit a.fine tt (λ n. let m = a.at_most_eight n in omega (arith, m)) in
      record { answers = r.answers; world = r.world; unfinished = r.unfinished }
  order st w (c ∷ cs) a =
      let now : ℕ = (heard c).time in
      let r =
      all (c ∷ cs) [] now st w (started st now a.fresh) a.fit a.fine ((omega arith, λ s e. omega arith), a.in_time)
      (λ n. let m = a.at_most_eight n in omega (arith, m)) in
      record { answers = r.answers; world = r.world; unfinished = r.unfinished }

pub join-order : JoinOrder
join-order alias =
    order (λ (c : Timed). c) (λ (c : Timed). Unit {0}) (λ (ds : List (List ℕ)). Unit {0}) keep (λ ds d u. tt) alias (join_at alias)
    (λ st ds c ok u v. join-passed alias st ds c ok)
