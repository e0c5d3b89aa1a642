-- `rx_join::unfinished::open` meets its contract.
-- Assumes nothing.
use mathlib.Core.Path.{refl, sym, ◌∙◌}
use lib.Dec.{ltb}
use mathlib.Core.Bool.{cond}
use borrow.Author.Rules.{rules}
use Rattle.rx_spec.specs.Reception.{free_in}
use Rattle.rx_place_spec.specs.PlaceBytes.{places_in}
use Rattle.rx_join_spec.proofs.JoinLaws.{open_full, open_done}
use Rattle.rx_join.proofs.ArriveLaws.{there_some, there_none}
use Rattle.rx_join.proofs.unfinished.open.Goals as goal

pub room_at-requires : goal.room_at-requires
room_at-requires c = (there_some _ (sym c.room_for.ensures ∙ c.in-Some.is)).1

pub returns-in_default : goal.returns-in_default
returns-in_default c =
    let a = c.args in
    let k = cond (ltb a.i 8) a.i (free_in (places_in a.places.now)) in
    open_full a.source a.i a.payload.now a.tick a.pool.now a.places.now k refl (there_none k (sym c.room_for.ensures ∙ c.in_default.is))

pub returns : goal.returns
returns c =
    let a = c.args in
    let k = there_some _ (sym c.room_for.ensures ∙ c.in-Some.is) in
    open_done a.source a.i a.payload.now a.tick a.pool.now a.places.now c.in-Some.k k.0 c.requires.0 c.requires.1 _ _
    (record { inside = k.1; size = search rules; bytes = c.hold.ensures }) (rw c.room_at.ensures at c.put.ensures)
