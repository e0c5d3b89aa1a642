-- `rx_timeout::drop_due` meets its contract: one place more is looked at in each turn.
-- Assumes nothing.
use Rattle.std.proofs.Common.{length, sym, ap, ◌∙◌, arith}
use Rattle.rx_timeout.proofs.DropFirst.{none_dropped, one-dropped, one-kept, all-dropped}
use Rattle.rx_timeout.proofs.drop_due.Goals.{then-is_due, else-is_due}
use Rattle.rx_timeout.proofs.drop_due.Goals as goal

pub loop-i-init : goal.loop-i-init
loop-i-init c = none_dropped _ _

pub loop-i-preserved : goal.loop-i-preserved
loop-i-preserved c =
    let a = c.args in
    elim c.if-is_due.branch [
      | then-is_due w ↦ one-dropped a.tick c.loop-i.i a.places.now c.loop-i.places c.if-is_due.places c.loop-i.invariant
          (ap length w.places-is ∙ w.free.auto.places) c.told-places (omega arith) (sym c.is_due.ensures ∙ w.if-is_due.true) (w.places-is ∙ w.free.ensures)
      | else-is_due w ↦ one-kept a.tick c.loop-i.i a.places.now c.loop-i.places c.if-is_due.places c.loop-i.invariant
          (ap length w.places-is) c.told-places (omega arith) (sym c.is_due.ensures ∙ w.if-is_due.false) w.places-is
    ]

pub returns-clause-places : goal.returns-clause-places
returns-clause-places c = (all-dropped c.args.tick c.loop-i.i c.args.places.now _ (omega arith) c.loop-i.invariant).0

pub returns-clause-renewal : goal.returns-clause-renewal
returns-clause-renewal c = (all-dropped c.args.tick c.loop-i.i c.args.places.now _ (omega arith) c.loop-i.invariant).1
