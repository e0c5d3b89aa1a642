-- `rx_search::all_pass` meets its contract.
-- Assumes nothing.
use mathlib.Core.Path.{sym, ◌∙◌}
use native.Mathlib.Omega.{arith}
use lib.ListN.{take, get_or}
use Rattle.rx_place_spec.specs.Place.{free_place}
use Rattle.rx_place_spec.specs.PlaceBytes.{places_in}
use Rattle.rx_place_spec.proofs.ByteLaws.{places-length}
use Rattle.rx_search.proofs.SearchLaws.{passing-sound, sound-next, sound-not, sound-all}
use Rattle.rx_search.proofs.all_pass.Goals as goal

pub returns-then-not-passes_at-clause-b7 : goal.returns-then-not-passes_at-clause-b7
returns-then-not-passes_at-clause-b7 g c e =
    let xs = c.args.places.now in
    let n = sym c.passes_at.ensures ∙ c.if-not-passes_at.true in
    sym (sound-not (places_in xs) c.loop-i.i (places-length xs) (omega arith) (rw e at n))

pub loop-i-preserved : goal.loop-i-preserved
loop-i-preserved g c =
    let ps = places_in c.args.places.now in
    let p = get_or ps c.loop-i.i free_place in
    sound-next ps c.loop-i.i (places-length c.args.places.now) (omega arith) c.loop-i.invariant
    (passing-sound _ (take c.loop-i.i ps) p (sym c.passes_at.ensures ∙ c.if-not-passes_at.false))

pub returns-clause-sound : goal.returns-clause-sound
returns-clause-sound g c n =
    let xs = c.args.places.now in
    (sound-all (places_in xs) c.loop-i.i (places-length xs) (omega arith) c.loop-i.invariant)

pub returns-clause-b7 : goal.returns-clause-b7
returns-clause-b7 g c n =
    let xs = c.args.places.now in
    sym (sound-all (places_in xs) c.loop-i.i (places-length xs) (omega arith) c.loop-i.invariant)
