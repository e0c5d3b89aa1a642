-- A worked example of one tool and its book: nine tools begin a datagram, so that the ninth is refused with 0x2020, and the fifth goes on. It
-- meets what is asked for, on a board with the alias 0x123, so that no bound on the number of tools is among it.
-- Assumes nothing.
use Prim.Native.Nat.{ℕ}
use mathlib.Core.Path.{◌≡◌, refl, sym, ap}
use mathlib.Core.Logic.{◌⊎◌, inl, inr}
use mathlib.Core.List.{List, [], ◌∷◌, ◌++◌}
use native.Mathlib.Omega.{arith}
use lib.ListN.{replicate}
use Rattle.buffer.specs.Buffer.{put_at}
use Rattle.buffer.proofs.Choice.{clash}
use Rattle.can_frame.specs.declared.TransportRefusal.TheVariants.{BufferUnavailable}
use Rattle.can_frame.specs.Frame.{can_frame, kind_of_frame, addressed, role_of}
use Rattle.rx_place_spec.specs.Ticks.{is_due, drop_due}
use Rattle.rx_spec.specs.Times.{Timed, timed, frame_input, Follows, Timely, book_of}
use Rattle.rx_place_spec.specs.State.{State, state, empty_places}
use Rattle.rx_spec.specs.Reception.{is_for, kept_in, join_sound, receive}
use Rattle.rx_spec.specs.Order.{CallAnswer, nothing, transport_refusal, handled, FrameResult, handle_frame, handle_tick, run_calls, unfinished_below, times_of, keep, join_at, Unrefused}
use Rattle.rx_source_spec.specs.OneSource.{FreshFor, Admitted, ByItsBook, TurnedAway}
use Rattle.rx_source_spec.proofs.OneSource.{join-one-source}

-- the First of a tool, and the fifth's Last
begun : ℕ → Timed
begun header = timed 0 (frame_input (can_frame header (7 ∷ [])))

ended : Timed
ended = timed 3000 (frame_input (can_frame 0x1D123005 (8 ∷ [])))

nine : List Timed
nine =
    begun 0x1B123001 ∷ begun 0x1B123002 ∷ begun 0x1B123003 ∷ begun 0x1B123004 ∷ begun 0x1B123005 ∷ begun 0x1B123006 ∷ begun 0x1B123007
    ∷ begun 0x1B123008 ∷ begun 0x1B123009 ∷ []

start : State
start = state empty_places (replicate 576 0)

abbrev join : State → List (List ℕ) → Timed → FrameResult (Unit {0}) (List (List ℕ)) (List ℕ)
join = join_at 0x123

-- nine tools are unfinished by their books
unfinished-nine : unfinished_below 10 (λ s. (book_of 0x123 nine s).book) ≡ 9
unfolding nine begun unfinished_below book_of kind_of_frame addressed role_of
unfinished-nine = refl

-- the ninth is refused, and the fifth's datagram is finished
answered : (run_calls join start [] (nine ++ ended ∷ [])).answers
    ≡ nothing ∷ nothing ∷ nothing ∷ nothing ∷ nothing ∷ nothing ∷ nothing ∷ nothing ∷ transport_refusal BufferUnavailable ∷ handled (7 ∷ 8 ∷ []) ∷ []
unfolding start nine begun ended put_at is_due drop_due is_for kept_in join_sound receive handle_frame handle_tick kind_of_frame addressed role_of
answered = refl

-- what is asked for
fresh : FreshFor 5 start
unfolding start is_for
fresh = record { eight = refl; bytes = refl; nothing-unfinished = refl }

times : Timely (times_of (λ (c : Timed). c) (nine ++ ended ∷ []))
unfolding nine begun ended
times = (here, (here, (here, (here, (here, (here, (here, (here, ((omega arith, omega arith), tt)))))))))
  where
    here : Follows 0 0
    here = (omega arith, omega arith)

unrefused : Unrefused join start [] (nine ++ ended ∷ [])
unfolding start nine begun ended put_at is_due drop_due is_for kept_in join_sound receive handle_frame handle_tick kind_of_frame addressed role_of
unrefused = (refl, (refl, (refl, (refl, (refl, (refl, (refl, (refl, (refl, (refl, tt))))))))))

-- of the fifth it is asked that it is not refused with 0x2020, and of no other
admitted : Admitted (λ (c : Timed). c) join 5 start [] nine
unfolding start nine begun ended put_at is_due drop_due is_for kept_in join_sound receive handle_frame handle_tick kind_of_frame addressed role_of
admitted = (
  λ e. clash (sym e),
  (
    λ e. clash (sym e),
    (
      λ e. clash (sym e),
      (
        λ e. clash (sym e),
        (
          λ e q. cc,
          (λ e. clash (sym e), (λ e. clash (sym e), (λ e. clash (sym e), (λ e. clash (sym e), tt)))),
        ),
      ),
    ),
  ),
)

apart : ◌≡◌ {A = CallAnswer (Unit {0}) (List ℕ)} (handled (7 ∷ 8 ∷ [])) (transport_refusal BufferUnavailable) → ⊥
apart q = cc

-- so it is answered by its book, since it is not turned away
fifth : ByItsBook keep 0x123 5 nine ended [] (join (run_calls join start [] nine).state [] ended)
unfolding start nine begun ended put_at is_due drop_due is_for kept_in join_sound receive handle_frame handle_tick kind_of_frame addressed role_of
fifth = go (join-one-source 0x123 5 start [] nine ended fresh times unrefused admitted)
  where
    go : ByItsBook keep 0x123 5 nine ended [] (join (run_calls join start [] nine).state [] ended)
        ⊎ TurnedAway keep 0x123 5 nine ended [] (join (run_calls join start [] nine).state [] ended)
        → ByItsBook keep 0x123 5 nine ended [] (join (run_calls join start [] nine).state [] ended)
    go (inl b) = b
    go (inr a) = absurd (apart (ap (λ (r : FrameResult (Unit {0}) (List (List ℕ)) (List ℕ)). r.answer) a.answer))

-- for the ninth the calls behind may start at what the nine left, where eight others have a place
ninth : FreshFor 9 (run_calls join start [] nine).state
unfolding start nine begun put_at is_due drop_due is_for kept_in join_sound receive handle_frame handle_tick kind_of_frame addressed role_of
ninth = record { eight = refl; bytes = refl; nothing-unfinished = refl }
