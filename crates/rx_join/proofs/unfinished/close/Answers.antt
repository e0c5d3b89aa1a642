-- `rx_join::unfinished::close` meets its contract.
-- Assumes nothing.
use mathlib.Core.Bool.{true}
use native.Mathlib.Omega.{arith}
use borrow.Author.Rules.{rules}
use Rattle.rx_join_spec.proofs.JoinLaws.{close-done}
use Rattle.rx_join.proofs.unfinished.close.Goals as goal

pub returns-clause-joins : goal.returns-clause-joins
returns-clause-joins c =
    let a = c.args in
    let r = c.room_at-from.ensures in
    rw r (close-done a.i a.len true a.payload.now a.pool.now a.places.now c.requires.0 c.requires.1 _ _ (rw r at c.put.ensures) 0 _
    (record { inside = c.requires.1.inside; size = search rules; bytes = c.free.ensures }) (omega arith))
