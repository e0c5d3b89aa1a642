-- Calls that the theorems speak of, at the edge of all that they assume.
-- Assumes nothing.
use Prim.Native.Nat.{ℕ, ◌+◌, ◌≤◌}
use mathlib.Core.Path.{◌≡◌, refl, sym, subst}
use mathlib.Core.Bool.{true, false}
use mathlib.Core.List.{List, [], ◌∷◌, map}
use native.Mathlib.Omega.{arith}
use lib.ListN.{length, replicate, length-replicate}
use Rattle.buffer.specs.Buffer.{put_at, Each}
use Rattle.buffer.proofs.Choice.{clash}
use Rattle.space_table.specs.declared.Space.{Space}
use Rattle.call_error.specs.CallErrors.{among, spaces_check, description_check}
use Rattle.call_error.specs.declared.CallError.TheVariants.{B6ReplyBufferTooShort, B7BadReceptionState}
use Rattle.can_frame.specs.Frame.{CanFrame, can_frame, kind_of_frame, addressed, role_of}
use Rattle.rx_place_spec.specs.declared.Place.{Place}
use Rattle.rx_place_spec.specs.Place.{held_for}
use Rattle.rx_place_spec.specs.Ticks.{tick_at, age, is_due, drop_due}
use Rattle.rx_spec.specs.Times.{Timed, InTime, moments_of}
use Rattle.rx_place_spec.specs.State.{State, state}
use Rattle.rx_spec.specs.Reception.{is_for, kept_in, join_sound, receive, at_tick}
use Rattle.rx_spec.specs.Order.{frame_result, caller_error, handle_frame, handle_tick, run_calls, AtMostEight, InOrder, Unrefused}
use Rattle.rx_source_spec.specs.Aging.{last_from, moments_to, FarBefore, EachAccepted, free_count, FirstAt}
use Rattle.rx_spec.proofs.Examples.{junk, fresh-junk, begins, eight-begin, edge, eight-tools, edge_in_time}
use Rattle.rx_source_spec.proofs.Examples.{eight-held, eight-held-any}
use Rattle.exec_registers.specs.Registers.{Registers, registers_at_start}
use Rattle.exec_spec.specs.Handling.{Fixed, Contents}
use Rattle.exec_spec.specs.Performing.{fixed, contents}
use Rattle.node_spec.specs.CallerErrors.{earlier_check, datagram_check, frame_check, tick_check}
use Rattle.node_spec.specs.FrameCall.{handler, frame_call}
use Rattle.node_spec.specs.TickCall.{tick_call}
use Rattle.node_spec.specs.NodeOrder.{Call, frame_at, lone_tick_at, heard_of, BufferFits, make_call, OwnCall, make_own}
use Rattle.node_spec.proofs.CallLaws.{node_theorems}
use Rattle.std.specs.Prelude.{Ok, Err}

-- n bytes
zeros : ℕ → List ℕ
zeros n = replicate n 0

length-zeros : (n : ℕ) → length (zeros n) ≡ n
unfolding zeros
length-zeros n = length-replicate n 0

-- ---- the order statement

-- sixteen spaces, each of all of 65,536 bytes of memory
wide : ℕ → Space
wide n = record { number = n; read_only = false; in_flash = false; lowest = 0; highest = 65535; offset = 0 }

sixteen : List Space
sixteen =
    wide 0 ∷ wide 1 ∷ wide 2 ∷ wide 3 ∷ wide 4 ∷ wide 5 ∷ wide 6 ∷ wide 7 ∷ wide 8 ∷ wide 9 ∷ wide 10 ∷ wide 11 ∷ wide 12 ∷ wide 13 ∷ wide 14 ∷ wide 15 ∷ []

board : List ℕ → Fixed
board flash = fixed 0x123 0 sixteen flash

-- flash of 65,536 bytes, and as much memory
no_error : (flash : List ℕ) → length flash ≡ 65536 → description_check (board flash).alias (board flash).spaces (length (board flash).flash) 65536 ≡ Ok tt
unfolding board sixteen wide description_check spaces_check among
no_error flash e = rw e

-- eight tools begin a datagram each, with reply buffers of 72 bytes; then come ticks, with pauses as long as may be
begun-by : ℕ → Call
begun-by s = frame_at 7 (can_frame (0x1B123000 + s) []) (zeros 72)

edge_calls : List Call
edge_calls =
    begun-by 0 ∷ begun-by 1 ∷ begun-by 2 ∷ begun-by 3 ∷ begun-by 4 ∷ begun-by 5 ∷ begun-by 6 ∷ begun-by 7 ∷ lone_tick_at 62006 ∷ lone_tick_at 1062006 ∷ []

heard-edge : edge ≡ map heard_of edge_calls
unfolding edge_calls begun-by edge eight-begin begins
heard-edge = refl

buffers_fit : Each BufferFits edge_calls
unfolding edge_calls begun-by
buffers_fit =
    let h : 72 ≤ length (zeros 72) = omega (arith, length-zeros 72) in
    (h, (h, (h, (h, (h, (h, (h, (h, (tt, (tt, tt))))))))))

-- the statement speaks of them
node_order-at_the_edge : (flash memory : List ℕ) (registers : Registers) → length flash ≡ 65536 → length memory ≡ 65536 →
    InOrder (handler (board flash)) (board flash).alias (contents memory registers) (map heard_of edge_calls)
    (run_calls (make_call (board flash)) junk (contents memory registers) edge_calls)
unfolding board
node_order-at_the_edge flash memory registers f m =
    (node_theorems (board flash)).order junk (contents memory registers) edge_calls
    (record {
      fresh = fresh-junk;
      fit = rw m (no_error flash f);
      fine = buffers_fit;
      in_time = subst (λ (cs : List Timed). InTime (moments_of 0x123 cs)) heard-edge edge_in_time;
      at_most_eight = subst (AtMostEight 0x123) heard-edge eight-tools;
    })

-- as many bytes there are
node_order-met : InOrder (handler (board (zeros 65536))) (board (zeros 65536)).alias (contents (zeros 65536) registers_at_start) (map heard_of edge_calls)
    (run_calls (make_call (board (zeros 65536))) junk (contents (zeros 65536) registers_at_start) edge_calls)
node_order-met = node_order-at_the_edge (zeros 65536) (zeros 65536) registers_at_start (length-zeros 65536) (length-zeros 65536)

-- ---- eight free places

-- a tick at 0, at which eight datagrams are unfinished; a frame with a reply buffer of 71 bytes, which is refused, at any time; a frame to another
-- board, handed to one with another description; and 3,001 ticks after the first
own-calls : List OwnCall
own-calls =
    record { fixed = fixed 1 0 [] []; contents = contents [] registers_at_start; call = lone_tick_at 0 }
    ∷ record { fixed = fixed 0x123 0 [] []; contents = contents [] registers_at_start; call = frame_at 9999999 (can_frame 0x1B123005 []) (zeros 71) }
    ∷ record { fixed = fixed 2 0 [] (1 ∷ []); contents = contents (7 ∷ []) registers_at_start; call = frame_at 1 (can_frame 0x1B123005 []) (zeros 72) }
    ∷ []

own-in_time : InTime (moments_to 3001 (λ (k : OwnCall). heard_of k.call) make_own eight-held (contents [] registers_at_start) own-calls)
unfolding own-calls zeros eight-held is_due drop_due is_for kept_in join_sound receive handle_frame handle_tick kind_of_frame addressed role_of frame_call tick_call frame_check tick_check earlier_check description_check spaces_check
own-in_time = ((omega arith, λ s e. omega arith), ((omega arith, λ s e. omega arith), tt))

own-far : FirstAt (FarBefore 3001) (moments_to 3001 (λ (k : OwnCall). heard_of k.call) make_own eight-held (contents [] registers_at_start) own-calls)
unfolding own-calls zeros eight-held is_due drop_due is_for kept_in join_sound receive handle_frame handle_tick kind_of_frame addressed role_of frame_call tick_call frame_check tick_check earlier_check description_check spaces_check
own-far = omega arith

none-accepted : EachAccepted (FarBefore 3001) (λ (k : OwnCall). heard_of k.call) make_own eight-held (contents [] registers_at_start) own-calls
unfolding own-calls zeros eight-held is_due drop_due is_for kept_in join_sound receive handle_frame handle_tick kind_of_frame addressed role_of frame_call tick_call frame_check tick_check earlier_check description_check spaces_check
none-accepted = (λ e. clash (sym e), (λ e. clash (sym e), (λ e. clash (sym e), tt)))

free_at_the_edge : free_count (at_tick (tick_at 3001) (run_calls make_own eight-held (contents [] registers_at_start) own-calls).state).places ≡ 8
free_at_the_edge = (node_theorems (fixed 1 0 [] [])).aging.eight-free eight-held (contents [] registers_at_start) own-calls 3001 eight-held-any own-in_time (λ s e. own-far) none-accepted

-- ---- ages

-- 1,000,000 ticks pass with nothing unfinished, and 61,999 with a datagram begun
small : Fixed
small = fixed 0x123 0 [] []

paused : List Call
paused = lone_tick_at 7 ∷ frame_at 1000007 (can_frame 0x1B123005 []) (zeros 72) ∷ []

paused_in_time : InTime (moments_to 1062006 heard_of (make_call small) junk (contents [] registers_at_start) paused)
unfolding small paused zeros junk put_at is_due drop_due is_for kept_in join_sound receive handle_frame handle_tick kind_of_frame addressed role_of frame_call tick_call frame_check tick_check earlier_check description_check spaces_check
paused_in_time = ((omega arith, λ s e. clash (sym e)), ((omega arith, λ s e. omega arith), tt))

paused_unrefused : Unrefused (make_call small) junk (contents [] registers_at_start) paused
unfolding small paused zeros junk put_at is_due drop_due is_for kept_in join_sound receive handle_frame handle_tick kind_of_frame addressed role_of frame_call tick_call frame_check tick_check earlier_check description_check spaces_check
paused_unrefused = (refl, (refl, tt))

ages-at_the_edge : Each (λ (p : Place). p.held ≡ true → last_from heard_of (make_call small) p.source 0 junk (contents [] registers_at_start) paused + age (tick_at 1062006) p.tick ≡ 1062006)
    (run_calls (make_call small) junk (contents [] registers_at_start) paused).state.places
ages-at_the_edge = (node_theorems small).aging.ages junk (contents [] registers_at_start) paused 1062006 fresh-junk paused_in_time paused_unrefused

-- ---- the first error of the caller that applies

-- one source twice, and both places due at the tick 3,001
twice : State
twice = state (held_for 5 0 0 ∷ held_for 5 0 0 ∷ []) []

-- B6 comes before B7
b6_first : (c : Contents) → length c.memory ≡ 0 → frame_check small (zeros 71) twice c ≡ Err B6ReplyBufferTooShort
unfolding small zeros frame_check earlier_check description_check spaces_check
b6_first c e = rw e

-- B7 is asked before anything is dropped, of a frame and of a lone tick, and nothing is
b7_of_a_frame : (c : Contents) (f : CanFrame) → length c.memory ≡ 0 → frame_call small (zeros 72) 3001 twice c f ≡ frame_result twice c (caller_error B7BadReceptionState)
unfolding small zeros twice is_for frame_call frame_check earlier_check description_check spaces_check
b7_of_a_frame c f e = rw e

b7_of_a_tick : (c : Contents) → tick_call 3001 twice c ≡ frame_result twice c (caller_error B7BadReceptionState)
unfolding twice is_for tick_call tick_check
b7_of_a_tick c = refl

-- a whole datagram brings no reception state
no_b7_of_a_datagram : (c : Contents) → length c.memory ≡ 0 → datagram_check small c (zeros 72) ≡ Ok tt
unfolding small zeros datagram_check earlier_check description_check spaces_check
no_b7_of_a_datagram c e = rw e
