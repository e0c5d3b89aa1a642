-- `perform` meets its contract: each command by its own function.
-- Assumes nothing.
use mathlib.Core.Path.{refl, ap}
use Rattle.exec_registers.specs.Registers.{Registers}
use Rattle.exec_spec.specs.Performing.{perform}
use Rattle.exec_spec.proofs.ContentsLaws.{stored, registered}
use Rattle.exec_datagram.proofs.perform.perform.Goals as goal

pub returns-in-Read : goal.returns-in-Read
unfolding perform
returns-in-Read c = rw c.in-Read.is (record { answer = c.read.ensures; contents = refl; six = tt })

pub returns-in-Write : goal.returns-in-Write
unfolding perform
returns-in-Write c =
    let e = c.write.ensures.writes in
    rw (c.in-Write.is, ← c.rest-bytes.ensures)
    (record { answer = e.answer; contents = stored _ e.memory; six = tt })

pub returns-in-WriteMasked : goal.returns-in-WriteMasked
unfolding perform
returns-in-WriteMasked c =
    let e = c.write_masked.ensures in
    rw (c.in-WriteMasked.is, ← c.rest-pairs.ensures)
    (record { answer = e.answer; contents = stored _ e.memory; six = tt })

pub returns-in-Options : goal.returns-in-Options
unfolding perform
returns-in-Options c = rw c.in-Options.is (record { answer = c.options.ensures; contents = refl; six = tt })

pub returns-in-Information : goal.returns-in-Information
unfolding perform
returns-in-Information c =
    rw c.in-Information.is
    (record { answer = rw (← c.find_space-found.ensures) c.information.ensures; contents = refl; six = tt })

pub returns-in-Lock : goal.returns-in-Lock
unfolding perform
returns-in-Lock c =
    let r = c.reserve.ensures in
    rw c.in-Lock.is
    (record { answer = rw (ap (λ (y : Registers). y.lock) r.left) at r.reply; contents = registered _ r.left; six = r.six })

pub returns-in-UpdateComplete : goal.returns-in-UpdateComplete
unfolding perform
returns-in-UpdateComplete c =
    rw c.in-UpdateComplete.is
    (record { answer = record { answer = refl; buffer = refl }; contents = refl; six = tt })
