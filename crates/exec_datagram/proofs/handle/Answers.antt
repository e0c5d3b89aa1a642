-- `handle` meets its contract.
-- Assumes nothing.
use mathlib.Core.Path.{refl, sym, ap, ◌∙◌}
use Rattle.cmd_decode.specs.Decoding.{reading_of}
use Rattle.exec_spec.specs.Handling.{handle}
use Rattle.exec_spec.specs.LentBoard.{fixed_in, contents_in}
use Rattle.exec_spec.proofs.HandlingLaws.{request-handled, handle-bounds, announced, leaves}
use Rattle.exec_datagram.proofs.handle.Goals as goal

pub returns-in-Err-clause-performs : goal.returns-in-Err-clause-performs
unfolding handle
returns-in-Err-clause-performs c =
    rw (← c.decode.ensures, c.in-Err.is, ← c.code_of.ensures)
    (record { answer = record { answer = refl; buffer = refl }; contents = refl; short = tt })

pub returns-in-Err-clause-bounds : goal.returns-in-Err-clause-bounds
returns-in-Err-clause-bounds c = handle-bounds

pub returns-in-Err-clause-announced : goal.returns-in-Err-clause-announced
returns-in-Err-clause-announced c = announced

pub returns-in-Err-clause-leaves : goal.returns-in-Err-clause-leaves
returns-in-Err-clause-leaves c = leaves

pub returns-in-Ok-clause-performs : goal.returns-in-Ok-clause-performs
returns-in-Ok-clause-performs c =
    let a = c.args in
    let x = fixed_in a.board.now in
    let d = a.datagram.now in
    let e = sym c.decode.ensures ∙ ap (λ r. reading_of r d) c.in-Ok.is in
    request-handled x (contents_in a.memory.now a.registers.now) d e c.perform.ensures

pub returns-in-Ok-clause-bounds : goal.returns-in-Ok-clause-bounds
returns-in-Ok-clause-bounds c = handle-bounds

pub returns-in-Ok-clause-announced : goal.returns-in-Ok-clause-announced
returns-in-Ok-clause-announced c = announced

pub returns-in-Ok-clause-leaves : goal.returns-in-Ok-clause-leaves
returns-in-Ok-clause-leaves c = leaves
