-- `rx_join::unfinished::swallow` meets its contract.
-- Assumes nothing.
use mathlib.Core.Path.{◌≡◌, sym, ◌∙◌}
use mathlib.Core.Bool.{true, false, ◌&&◌}
use lib.Dec.{eqb}
use lib.ListN.{get_or}
use borrow.Author.Rules.{rules}
use Rattle.rx_place_spec.specs.declared.Place.{Place}
use Rattle.rx_place_spec.specs.Place.{free_place}
use Rattle.rx_place_spec.specs.PlaceBytes.{places_in}
use Rattle.rx_join_spec.proofs.JoinLaws.{swallow_same, swallow_else}
use Rattle.rx_join.proofs.unfinished.swallow.Goals as goal

pub returns-then-stands : goal.returns-then-stands
returns-then-stands c pool d =
    let e = c in
    let a = e.args in
    let p : Place = get_or (places_in a.places.now) a.i free_place in
    let y : (eqb p.len 0 && eqb p.tick a.tick) ≡ true = rw (← e.requires.1, ← c.tick_at.ensures) (sym c.stands.ensures ∙ c.if-stands.true) in
    swallow_same a.i a.source d a.tick pool a.places.now e.requires.0 y

pub returns : goal.returns
returns c pool d =
    let n = c in
    let e = n in
    let a = e.args in
    let p : Place = get_or (places_in a.places.now) a.i free_place in
    let y : (eqb p.len 0 && eqb p.tick a.tick) ≡ false = rw (← e.requires.1, ← n.tick_at.ensures) (sym c.stands.ensures ∙ c.if-stands.false) in
    swallow_else a.i a.source d a.tick pool a.places.now e.requires.0 _ (record { inside = e.requires.0.inside; size = search rules; bytes = c.swallow.ensures }) y
