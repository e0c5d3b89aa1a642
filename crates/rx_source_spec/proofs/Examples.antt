-- Calls that the theorems on ages, eight free places and one tool speak of, at the edge of all that they assume, on a
-- board with the alias 0x123.
-- Assumes nothing.
use Prim.Native.Nat.{ℕ, ◌+◌}
use mathlib.Core.Path.{◌≡◌, refl, sym}
use mathlib.Core.Logic.{◌≢◌, ◌⊎◌}
use mathlib.Core.Bool.{true}
use mathlib.Core.List.{List, [], ◌∷◌, ◌++◌, map}
use native.Mathlib.Omega.{arith}
use lib.ListN.{replicate}
use Rattle.buffer.proofs.Choice.{clash}
use Rattle.buffer.specs.Buffer.{put_at, Each}
use Rattle.can_frame.specs.declared.TransportRefusal.TheVariants.{OutOfOrder, BufferUnavailable}
use Rattle.can_frame.specs.Frame.{kind_of_frame, addressed, role_of}
use Rattle.rx_place_spec.specs.declared.Place.{Place}
use Rattle.rx_place_spec.specs.Place.{held_for}
use Rattle.rx_place_spec.specs.Ticks.{tick_at, age, is_due, drop_due}
use Rattle.rx_spec.specs.Times.{frame_input, lone_tick, Timed, timed, InTime}
use Rattle.rx_place_spec.specs.State.{State, state}
use Rattle.rx_spec.specs.Reception.{at_tick, is_for, kept_in, join_sound, receive}
use Rattle.rx_spec.specs.Order.{CallAnswer, nothing, transport_refusal, FrameResult, handle_frame, handle_tick, run_calls, keep, join_at, Unrefused}
use Rattle.rx_source_spec.specs.Aging.{last_from, moments_to, FarBefore, EachAccepted, free_count, AnyState, FirstAt, JoinCall}
use Rattle.rx_source_spec.specs.OneSource.{Admitted, ByItsBook, TurnedAway}
use Rattle.rx_source_spec.proofs.FreePlaces.{join-aging}
use Rattle.rx_source_spec.proofs.OneSource.{join-one-source}
use Rattle.rx_spec.proofs.Examples.{junk, fresh-junk, first-of_5}

-- ---- ages, eight free places and the rejection, at the edge of what they assume

abbrev join_one : State → List (List ℕ) → Timed → FrameResult (Unit {0}) (List (List ℕ)) (List ℕ)
join_one = join_at 0x123

-- 1,000,000 ticks pass with nothing unfinished, and 61,999 with a datagram begun
paused : List Timed
paused = timed 7 lone_tick ∷ timed 1000007 (frame_input first-of_5) ∷ []

paused_in_time : InTime (moments_to 1062006 (λ (c : Timed). c) join_one junk [] paused)
unfolding paused junk first-of_5 put_at is_due drop_due is_for kept_in join_sound receive handle_frame handle_tick kind_of_frame addressed role_of
paused_in_time = ((omega arith, λ s e. clash (sym e)), ((omega arith, λ s e. omega arith), tt))

paused_unrefused : Unrefused join_one junk [] paused
unfolding paused junk first-of_5 put_at is_due drop_due is_for kept_in join_sound receive handle_frame handle_tick kind_of_frame addressed role_of
paused_unrefused = (refl, (refl, tt))

ages-at_the_edge : Each (λ (p : Place). p.held ≡ true → last_from (λ (c : Timed). c) join_one p.source 0 junk [] paused + age (tick_at 1062006) p.tick ≡ 1062006)
    (run_calls join_one junk [] paused).state.places
ages-at_the_edge = join-aging.ages 0x123 junk [] paused 1062006 fresh-junk paused_in_time paused_unrefused

-- eight datagrams are unfinished at the start, the last tick before 0 in each place; a tick comes at 0, and 3,001 ticks later they are gone
unfoldable pub eight-held : State
eight-held =
    state
    (held_for 0 72 65535 ∷ held_for 1 72 65535 ∷ held_for 2 72 65535 ∷ held_for 3 72 65535 ∷ held_for 4 72 65535 ∷ held_for 5 72 65535 ∷ held_for 6 72 65535 ∷ held_for 7 72 65535 ∷ [])
    (replicate 576 85)

abbrev join_own : State → List (List ℕ) → JoinCall → FrameResult (Unit {0}) (List (List ℕ)) (List ℕ)
join_own st ds k = join_at k.alias st [] k.call

one-tick-at_0 : List JoinCall
one-tick-at_0 = record { alias = 0x123; call = timed 0 lone_tick } ∷ []

pub eight-held-any : AnyState eight-held
unfolding eight-held
eight-held-any = record { eight = refl; bytes = refl; ticks = (omega arith, (omega arith, (omega arith, (omega arith, (omega arith, (omega arith, (omega arith, (omega arith, tt)))))))) }

held-in_time : InTime (moments_to 3001 (λ (k : JoinCall). k.call) join_own eight-held [] one-tick-at_0)
unfolding one-tick-at_0 eight-held is_due drop_due is_for handle_tick
held-in_time = ((omega arith, λ s e. omega arith), tt)

held-far : FirstAt (FarBefore 3001) (moments_to 3001 (λ (k : JoinCall). k.call) join_own eight-held [] one-tick-at_0)
unfolding one-tick-at_0 eight-held is_due drop_due is_for handle_tick
held-far = omega arith

none-accepted : EachAccepted (FarBefore 3001) (λ (k : JoinCall). k.call) join_own eight-held [] one-tick-at_0
unfolding one-tick-at_0
none-accepted = (λ e. clash (sym e), tt)

free_at_the_edge : free_count (at_tick (tick_at 3001) (run_calls join_own eight-held [] one-tick-at_0).state).places ≡ 8
free_at_the_edge = join-aging.eight-free eight-held [] one-tick-at_0 3001 eight-held-any held-in_time (λ s e. held-far) none-accepted

-- a datagram is begun 61,999 ticks after the call before; just 3,000 ticks later a First is refused; and 61,999 ticks later a tick comes
before-refusal : List Timed
before-refusal = timed 7 lone_tick ∷ timed 62006 (frame_input first-of_5) ∷ []

refused_first : Timed
unfolding first-of_5
refused_first = timed 65006 (frame_input first-of_5)

behind-refusal : List Timed
behind-refusal = timed 127005 lone_tick ∷ []

refusal-unrefused : Unrefused join_one junk [] (before-refusal ++ refused_first ∷ behind-refusal)
unfolding before-refusal refused_first behind-refusal junk first-of_5 put_at is_due drop_due is_for kept_in join_sound receive handle_frame handle_tick kind_of_frame addressed role_of
refusal-unrefused = (refl, (refl, (refl, (refl, tt))))

abbrev to_the_refusal : List Timed
to_the_refusal = before-refusal ++ refused_first ∷ []

never_turned_away : Admitted (λ (c : Timed). c) join_one 5 junk [] to_the_refusal
unfolding before-refusal refused_first junk first-of_5 put_at is_due drop_due is_for kept_in join_sound receive handle_frame handle_tick kind_of_frame addressed role_of
never_turned_away = (λ e. clash (sym e), (λ e. differ, (λ e. other, tt)))
  where
    differ : (let a : CallAnswer (Unit {0}) (List ℕ) = nothing in let b : CallAnswer (Unit {0}) (List ℕ) = transport_refusal BufferUnavailable in a ≢ b)
    differ q = cc

    other : (let a : CallAnswer (Unit {0}) (List ℕ) = transport_refusal OutOfOrder in let b : CallAnswer (Unit {0}) (List ℕ) = transport_refusal BufferUnavailable in a ≢ b)
    other q = cc

source-at_the_edge :
    let before = run_calls join_one junk [] to_the_refusal in
    let r = join_one before.state before.world (timed 127005 lone_tick) in
    ByItsBook keep 0x123 5 (map (λ (c : Timed). c) to_the_refusal) (timed 127005 lone_tick) before.world r
    ⊎ TurnedAway keep 0x123 5 (map (λ (c : Timed). c) to_the_refusal) (timed 127005 lone_tick) before.world r
unfolding before-refusal refused_first behind-refusal
source-at_the_edge =
    join-one-source 0x123 5 junk [] to_the_refusal (timed 127005 lone_tick)
    (record { eight = fresh-junk.eight; bytes = fresh-junk.bytes; nothing-unfinished = fresh-junk.nothing-unfinished 5 })
    ((omega arith, omega arith), ((omega arith, omega arith), ((omega arith, omega arith), tt))) refusal-unrefused never_turned_away
