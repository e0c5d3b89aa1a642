-- `rx_join::unfinished::append` meets its contract.
-- Assumes nothing.
use mathlib.Core.Path.{refl}
use mathlib.Core.Bool.{false}
use borrow.Author.Rules.{rules}
use Rattle.rx_join_spec.proofs.JoinLaws.{append_done}
use Rattle.rx_join.proofs.unfinished.append.Goals as goal

pub returns : goal.returns
returns c =
    let a = c.args in
    append_done a.i a.len false a.payload.now a.pool.now a.places.now c.requires.0 c.requires.1 _ _ (rw c.room_at.ensures at c.put.ensures) refl a.source a.tick
    (record { inside = c.requires.1.inside; size = search rules; bytes = c.hold.ensures })
