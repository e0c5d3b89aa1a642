-- Worked examples: a tool with the alias 5 that has begun a datagram, and after a frame that was lost, on a board with the
-- alias 0x123. And calls that the order statement speaks of, at the edge of all that it assumes.
-- Assumes nothing.
use Prim.Native.Nat.{ℕ, zero, suc, ◌+◌, ◌≤◌, ◌<◌}
use mathlib.Core.Path.{◌≡◌, refl, sym, ap, ◌∙◌}
use mathlib.Core.Logic.{◌≢◌}
use mathlib.Core.Bool.{true, false, cond}
use mathlib.Core.List.{List, [], ◌∷◌, ◌++◌}
use native.Mathlib.Omega.{arith}
use lib.Dec.{ltb, eqb}
use lib.ListN.{take, replicate}
use borrow.Author.Tests.{ltb-true, ltb-false, lt-ltb, ne_eqb}
use Rattle.buffer.proofs.Choice.{clash, by-test, cond-true, cond-elim}
use Rattle.buffer.specs.Buffer.{put_at, Each}
use Rattle.can_frame.specs.declared.TransportRefusal.TheVariants.{OutOfOrder}
use Rattle.can_frame.specs.Frame.{CanFrame, can_frame, kind_of_frame, addressed, source_of, role_of}
use Rattle.rx_place_spec.specs.Place.{place, held_for, swallowing_for, free_place}
use Rattle.rx_place_spec.specs.Ticks.{is_due, drop_due}
use Rattle.rx_spec.specs.Books.{Book, blank, holds, swallowing, is_unfinished, ignored, no_answer, refuse, finish, enter_frame}
use Rattle.rx_spec.specs.Times.{Input, frame_input, lone_tick, Timed, timed, InTime, moments_of, DatedBook, dated, is_accepted, hear_time, hear_input, hear_call, hear_calls, book_of}
use Rattle.rx_place_spec.specs.State.{State, state}
use Rattle.rx_spec.specs.Reception.{is_for, kept_in, sound, join_sound, joined, receive, receive_all}
use Rattle.rx_spec.specs.Order.{caller_error, frame_result, run_calls, unfinished_below, Fresh, AtMostEight, InOrder, keep, join_at}
use Rattle.rx_spec.proofs.Order.{join-order}

-- ---- a frame

-- the tool has begun a datagram at the tick 0, and all other places are free
begun : State
begun = state (held_for 5 0 0 ∷ replicate 7 free_place) []

middle : CanFrame
middle = can_frame 0x1C123005 (7 ∷ [])

-- a frame to another board, which is ignored
elsewhere : CanFrame
elsewhere = can_frame 0x1C124005 (7 ∷ [])

-- the drop comes before the frame: a Middle 3,001 ticks later finds none unfinished
late_middle : receive 0x123 3001 begun middle ≡ joined (state (replicate 8 free_place) []) (refuse OutOfOrder)
unfolding begun middle is_due drop_due is_for join_sound receive kind_of_frame addressed role_of
late_middle = refl

-- an ignored frame drops too, and does not renew
late_ignored : receive 0x123 3001 begun elsewhere ≡ joined (state (replicate 8 free_place) []) ignored
unfolding begun elsewhere is_due drop_due is_for join_sound receive kind_of_frame addressed role_of
late_ignored = refl

not-renewed : receive 0x123 3000 begun elsewhere ≡ joined begun ignored
unfolding begun elsewhere is_due drop_due is_for join_sound receive kind_of_frame addressed role_of
not-renewed = refl

-- a state that B7 refuses comes back as it was, with what is old: after a frame, and after a lone tick
twice : State
twice = state (held_for 5 0 0 ∷ held_for 5 0 0 ∷ []) []

nothing-dropped : (i : Input) → join_at 0x123 twice [] (timed 3001 i) ≡ frame_result twice [] (caller_error tt)
unfolding twice is_for
nothing-dropped i = refl

-- ---- a book

book-stays : (hear_time 3000 (dated (holds []) 0)).book ≡ holds []
book-stays = refl

book-dropped : (hear_time 3001 (dated (holds []) 0)).book ≡ blank
book-dropped = refl

-- a frame of another tool in between renews nothing, and its time is heard
unfoldable pub first-of_5 : CanFrame
first-of_5 = can_frame 0x1B123005 []

first-of_6 : CanFrame
first-of_6 = can_frame 0x1B123006 []

others : (book_of 0x123 (timed 0 (frame_input first-of_5) ∷ timed 3000 (frame_input first-of_6) ∷ timed 3001 lone_tick ∷ []) 5).book ≡ blank
unfolding first-of_5 first-of_6 book_of kind_of_frame addressed role_of
others = refl

heard : (book_of 0x123 (timed 0 (frame_input first-of_5) ∷ timed 3001 (frame_input first-of_6) ∷ []) 5).book ≡ blank
unfolding first-of_5 first-of_6 book_of kind_of_frame addressed role_of
heard = refl

kept : (book_of 0x123 (timed 0 (frame_input first-of_5) ∷ timed 3000 (frame_input first-of_6) ∷ []) 5).book ≡ holds []
unfolding first-of_5 first-of_6 book_of kind_of_frame addressed role_of
kept = refl

-- ---- a lost frame

first : CanFrame
first = can_frame 0x1B123005 (1 ∷ 2 ∷ [])

empty-middle : CanFrame
empty-middle = can_frame 0x1C123005 []

last : CanFrame
last = can_frame 0x1D123005 (9 ∷ [])

single : CanFrame
single = can_frame 0x1A123005 (32 ∷ [])

-- the Last of what was begun is lost: the next First is refused, and the rest of its datagram is swallowed; the next datagram is joined
lost_last : receive_all 0x123 begun (0 ∷ 0 ∷ 0 ∷ 0 ∷ 0 ∷ 0 ∷ []) (first ∷ middle ∷ empty-middle ∷ last ∷ first ∷ last ∷ [])
    ≡ refuse OutOfOrder ∷ no_answer ∷ no_answer ∷ no_answer ∷ no_answer ∷ finish (1 ∷ 2 ∷ 9 ∷ []) ∷ []
unfolding begun first middle empty-middle last put_at is_due drop_due is_for kept_in join_sound receive kind_of_frame addressed role_of
lost_last = refl

-- a Single, or a First, ends the swallowing; behind the Last that does, a Middle is a stray again
single-ends : receive_all 0x123 begun (0 ∷ 0 ∷ 0 ∷ []) (empty-middle ∷ single ∷ middle ∷ []) ≡ refuse OutOfOrder ∷ finish (32 ∷ []) ∷ refuse OutOfOrder ∷ []
unfolding begun middle empty-middle single is_due drop_due is_for kept_in join_sound receive kind_of_frame addressed role_of
single-ends = refl

first_ends : receive_all 0x123 begun (0 ∷ 0 ∷ 0 ∷ []) (single ∷ first ∷ last ∷ []) ≡ refuse OutOfOrder ∷ no_answer ∷ finish (1 ∷ 2 ∷ 9 ∷ []) ∷ []
unfolding begun first last single put_at is_due drop_due is_for kept_in join_sound receive kind_of_frame addressed role_of
first_ends = refl

last-ends : receive_all 0x123 begun (0 ∷ 0 ∷ 0 ∷ []) (single ∷ last ∷ middle ∷ []) ≡ refuse OutOfOrder ∷ no_answer ∷ refuse OutOfOrder ∷ []
unfolding begun middle last single is_due drop_due is_for kept_in join_sound receive kind_of_frame addressed role_of
last-ends = refl

-- the refused frame leaves the tick, and a swallowed one renews it
kept-place : receive 0x123 2 begun first ≡ joined (state (swallowing_for 5 0 ∷ replicate 7 free_place) []) (refuse OutOfOrder)
unfolding begun first is_due drop_due is_for kept_in join_sound receive kind_of_frame addressed role_of
kept-place = refl

swallowed : State
swallowed = state (swallowing_for 5 0 ∷ replicate 7 free_place) []

renewed-place : receive 0x123 3000 swallowed middle ≡ joined (state (swallowing_for 5 3000 ∷ replicate 7 free_place) []) no_answer
unfolding swallowed middle is_due drop_due is_for kept_in join_sound receive kind_of_frame addressed role_of
renewed-place = refl

too_old : receive 0x123 3001 swallowed middle ≡ joined (state (replicate 8 free_place) []) (refuse OutOfOrder)
unfolding swallowed middle is_due drop_due is_for kept_in join_sound receive kind_of_frame addressed role_of
too_old = refl

-- of a place that is being swallowed B7 asks for its source, and for no length
any_length : sound (place true 255 4095 0 true ∷ []) ≡ true
any_length = refl

large_source : sound (place true 0 4096 0 true ∷ []) ≡ false
large_source = refl

two_places : sound (swallowing_for 5 0 ∷ held_for 5 8 0 ∷ []) ≡ false
unfolding is_for
two_places = refl

-- the book has the same
book-swallowing : book_of 0x123 (timed 0 (frame_input first-of_5) ∷ timed 1 (frame_input first-of_5) ∷ timed 2 (frame_input middle) ∷ []) 5 ≡ dated swallowing 2
unfolding first-of_5 middle book_of kind_of_frame addressed role_of
book-swallowing = refl

book-gone : (book_of 0x123 (timed 0 (frame_input first-of_5) ∷ timed 1 (frame_input first-of_5) ∷ timed 3001 lone_tick ∷ []) 5).book ≡ blank
unfolding first-of_5 book_of kind_of_frame addressed role_of
book-gone = refl

-- ---- the order statement, at the edge of what it assumes

-- free places, and the pool, may hold anything
unfoldable pub junk : State
junk = state (replicate 8 (place false 200 9999 1 true)) (replicate 576 85)

pub fresh-junk : Fresh junk
unfolding junk is_for
fresh-junk = record { passes-b7 = refl; eight = refl; bytes = refl; nothing-unfinished = λ s. refl }

-- eight tools begin a datagram each at the time 7
unfoldable pub begins : ℕ → Timed
begins s = timed 7 (frame_input (can_frame (0x1B123000 + s) []))

unfoldable pub eight-begin : List Timed
eight-begin = begins 0 ∷ begins 1 ∷ begins 2 ∷ begins 3 ∷ begins 4 ∷ begins 5 ∷ begins 6 ∷ begins 7 ∷ []

-- 61,999 ticks later, with eight unfinished, a tick comes; and 1,000,000 ticks later, with none, another
unfoldable pub edge : List Timed
unfolding eight-begin
edge = eight-begin ++ timed 62006 lone_tick ∷ timed 1062006 lone_tick ∷ []

-- the calls bring no frame of s
abbrev NotFrom : ℕ → Timed → Type 0
NotFrom s c = (alias t : ℕ) (b : DatedBook) → hear_input alias s t c.input b ≡ b

begins-not : (k s : ℕ) → source_of (0x1B123000 + k) ≢ s → NotFrom s (begins k)
unfolding begins
begins-not k s n alias t b = rw (ne_eqb (source_of (0x1B123000 + k)) s n)

still_blank : (t : ℕ) (b : DatedBook) → b.book ≡ blank → (hear_time t b).book ≡ blank
still_blank t b e = cond-elim (λ (x : Book). x ≡ blank) (ltb (b.last + 3000) t) (λ q. refl) (λ q. e)

blank-after : (alias s : ℕ) (cs : List Timed) (b : DatedBook) → Each (NotFrom s) cs → b.book ≡ blank → (hear_calls alias s b cs).book ≡ blank
blank-after alias s [] b n e = e
blank-after alias s (c ∷ cs) b n e =
    blank-after alias s cs (hear_call alias s c b) n.1 (ap (λ (x : DatedBook). x.book) (n.0 alias c.time (hear_time c.time b)) ∙ still_blank c.time b e)

each_take : {C : Type 0} (P : C → Type 0) (n : ℕ) (cs : List C) → Each P cs → Each P (take n cs)
each_take P zero cs e = tt
each_take P (suc n) [] e = tt
each_take P (suc n) (c ∷ cs) e = (e.0, each_take P n cs e.1)

-- where no source from 8 on is unfinished, at most eight are
at_most : (n : ℕ) (book : ℕ → Book) → ((s : ℕ) → 8 ≤ s → book s ≡ blank) → (unfinished_below n book ≤ n) × (unfinished_below n book ≤ 8)
unfolding unfinished_below
at_most zero book none = (omega arith, omega arith)
at_most (suc n) book none =
    let ih = at_most n book none in
    by-test (ltb n 8)
    (λ e. let h = ltb-true n 8 e in
    let one : cond (is_unfinished (book n)) 1 0 ≤ 1 = cond-elim (λ (x : ℕ). x ≤ 1) (is_unfinished (book n)) (λ q. omega arith) (λ q. omega arith) in
    (omega (arith, ih.0, one), omega (arith, ih.0, one)))
    (λ e. let h = ltb-false n 8 e in
    let zero : cond (is_unfinished (book n)) 1 0 ≤ 0 = rw (none n h) (omega arith) in
    (omega (arith, ih.0, zero), omega (arith, ih.1, zero)))

-- no tool from 8 on is heard
not-from-8 : (s : ℕ) → 8 ≤ s → Each (NotFrom s) edge
unfolding edge eight-begin begins
not-from-8 s h =
    let begun : (k : ℕ) → k < 8 → NotFrom s (begins k) = λ k l. begins-not k s (λ e. omega (arith, e)) in
    (begun 0 (omega arith), (begun 1 (omega arith), (begun 2 (omega arith), (begun 3 (omega arith), (begun 4 (omega arith), (begun 5 (omega arith), (begun 6 (omega arith), (begun 7 (omega arith), (λ alias t b. refl, (λ alias t b. refl, tt))))))))))

pub eight-tools : AtMostEight 0x123 edge
unfolding book_of
eight-tools n =
    let few : unfinished_below 4096 (λ s. (book_of 0x123 (take n edge) s).book) ≤ 8 =
    (at_most 4096 (λ s. (book_of 0x123 (take n edge) s).book) (λ s h. blank-after 0x123 s (take n edge) _ (each_take (NotFrom s) n edge (not-from-8 s h)) refl)).1 in
    omega (arith, few)

-- and they are eight
below_more : (n : ℕ) (book : ℕ → Book) → 8 ≤ n → ((s : ℕ) → 8 ≤ s → book s ≡ blank) → unfinished_below n book ≡ unfinished_below 8 book
unfolding unfinished_below
below_more zero book h none = absurd (omega (arith, h))
below_more (suc n) book h none =
    by-test (ltb n 8)
    (λ e. let q : suc n ≡ 8 = omega (arith, h, ltb-true n 8 e) in ap (λ (m : ℕ). unfinished_below m book) q)
    (λ e. let l = ltb-false n 8 e in rw (none n l) (omega (arith, below_more n book l none)))

first-eight : unfinished_below 8 (λ s. (book_of 0x123 (take 8 edge) s).book) ≡ 8
unfolding edge eight-begin begins unfinished_below book_of kind_of_frame addressed role_of
first-eight = refl

all-eight : unfinished_below 4096 (λ s. (book_of 0x123 (take 8 edge) s).book) ≡ 8
unfolding book_of
all-eight =
    below_more 4096 (λ s. (book_of 0x123 (take 8 edge) s).book) (omega arith) (λ s h. blank-after 0x123 s (take 8 edge) _ (each_take (NotFrom s) 8 edge (not-from-8 s h)) refl)
    ∙ first-eight

-- after a tick that is far behind all of them, no tool is unfinished
last-before : (alias s x : ℕ) (cs : List Timed) (b : DatedBook) → b.last ≤ x → Each (λ (c : Timed). c.time ≤ x) cs → (hear_calls alias s b cs).last ≤ x
last-before alias s x [] b h e = h
last-before alias s x (c ∷ cs) b h e = last-before alias s x cs (hear_call alias s c b) (go c.input) e.1
  where
    go : (i : Input) → (hear_input alias s c.time i (hear_time c.time b)).last ≤ x
    go (frame_input f) =
        cond-elim (λ (d : DatedBook). d.last ≤ x) (eqb (source_of f.header) s)
        (λ q. cond-elim (λ (y : ℕ). y ≤ x) (is_accepted (enter_frame alias f (hear_time c.time b).book).event) (λ a. e.0) (λ a. h))
        (λ q. h)
    go lone_tick = h

all-blank : (s : ℕ) → (book_of 0x123 (take 9 edge) s).book ≡ blank
unfolding edge eight-begin begins book_of
all-blank s =
    let h : (hear_calls 0x123 s (dated blank 0) eight-begin).last ≤ 7 =
    last-before 0x123 s 7 eight-begin (dated blank 0) (omega arith)
    (omega arith, (omega arith, (omega arith, (omega arith, (omega arith, (omega arith, (omega arith, (omega arith, tt)))))))) in
    cond-true (ltb ((hear_calls 0x123 s (dated blank 0) eight-begin).last + 3000) 62006) blank (hear_calls 0x123 s (dated blank 0) eight-begin).book (lt-ltb ((hear_calls 0x123 s (dated blank 0) eight-begin).last + 3000) 62006 (omega (arith, h)))

pub edge_in_time : InTime (moments_of 0x123 edge)
unfolding edge eight-begin begins
edge_in_time =
    ((omega arith, λ s e. omega arith), ((omega arith, λ s e. omega arith), ((omega arith, λ s e. omega arith), ((omega arith, λ s e. omega arith), ((omega arith, λ s e. omega arith), ((omega arith, λ s e. omega arith), ((omega arith, λ s e. omega arith), ((omega arith, λ s e. omega arith), ((omega arith, λ s e. clash (sym e ∙ ap is_unfinished (all-blank s))), tt)))))))))

-- the statement speaks of them
order-at_the_edge : InOrder keep 0x123 [] edge (run_calls (join_at 0x123) junk [] edge)
unfolding edge eight-begin
order-at_the_edge =
    join-order 0x123 junk [] edge
    (record {
      fresh = fresh-junk;
      fit = tt;
      fine = (tt, (tt, (tt, (tt, (tt, (tt, (tt, (tt, (tt, (tt, tt))))))))));
      in_time = edge_in_time;
      at_most_eight = eight-tools;
    })
