-- `rx_search::look_through` meets its contract.
-- Assumes nothing.
use mathlib.Core.Path.{refl, sym, ap, ◌∙◌}
use mathlib.Core.Bool.{Bool, ◌||◌}
use mathlib.Core.Logic.{inl, inr}
use native.Mathlib.Omega.{arith}
use lib.ListN.{take, get_or}
use Rattle.buffer.proofs.Choice.{by-test}
use Rattle.rx_place_spec.specs.Place.{free_place}
use Rattle.rx_place_spec.specs.Ticks.{is_due}
use Rattle.rx_place_spec.specs.PlaceBytes.{places_in}
use Rattle.rx_place_spec.proofs.ByteLaws.{places-length}
use Rattle.rx_search.proofs.SearchLaws.{passing-sound, turn, sound-not, due_next, looked-bad, looked-done}
use Rattle.rx_search.proofs.look_through.Goals as goal

pub returns-then-not-passes_at : goal.returns-then-not-passes_at
returns-then-not-passes_at g c =
    let a = c.args in
    let ps = places_in a.places.now in
    let n = sym c.passes_at.ensures ∙ c.if-not-passes_at.true in
    by-test _
    (λ e. inl (refl, e))
    (λ e. inr (looked-bad a.source a.tick ps (sound-not ps c.loop-i.i (places-length a.places.now) (omega arith) (rw e at n))))

pub loop-i-preserved : goal.loop-i-preserved
loop-i-preserved g c =
    let a = c.args in
    let ps = places_in a.places.now in
    let p = get_or ps c.loop-i.i free_place in
    let l = places-length a.places.now in
    let b = passing-sound _ (take c.loop-i.i ps) p (sym c.passes_at.ensures ∙ c.if-not-passes_at.false) in (
      turn a.source ps c.loop-i.i l (omega arith) c.loop-i.found c.next_found-found.result c.loop-i.invariant.0 b
          c.next_found-found.ensures,
      c.next_due-due.ensures ∙ ap (λ (d : Bool). d || is_due a.tick p) c.loop-i.invariant.1 ∙ sym (due_next a.tick ps c.loop-i.i (omega arith)),
    )

pub returns : goal.returns
returns g c =
    let a = c.args in
    let l = places-length a.places.now in
    inr (looked-done a.source a.tick (places_in a.places.now) c.loop-i.i c.loop-i.found c.loop-i.due l (omega arith) c.loop-i.invariant.0 c.loop-i.invariant.1)
