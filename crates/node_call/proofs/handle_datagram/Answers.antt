-- `handle_datagram` meets its contract.
-- Assumes nothing.
use mathlib.Core.Path.{refl, sym, ◌∙◌}
use Rattle.std.proofs.lemmas.Result.{err_from_is_err_and}
use Rattle.exec_spec.specs.LentBoard.{fixed_in, contents_in}
use Rattle.node_spec.proofs.DatagramLaws.{by-sizes, call-refused, call-answered, call-small, call-changes}
use Rattle.node_call.proofs.handle_datagram.Goals as goal

pub returns-in_err-check_call : goal.returns-in_err-check_call
returns-in_err-check_call c =
    let a = c.args in
    let x = fixed_in a.board.now in
    let w = contents_in a.memory.now a.registers.now in
    let g = sym (by-sizes x w a.reply.now c.check_call.ensures.first) ∙ c.in_err-check_call.was in
    let p = err_from_is_err_and c.from_residual.result c.from_residual.ensures.1 in
    rw (p.1, p.2) (record { ends = call-refused x w a.datagram.now a.reply.now g; small = tt; changes = refl })

pub returns : goal.returns
returns c =
    let a = c.args in
    let x = fixed_in a.board.now in
    let w = contents_in a.memory.now a.registers.now in
    let g = sym (by-sizes x w a.reply.now c.check_call.ensures.first) ∙ c.in_ok-check_call.was in
    let p = c.handle.ensures.performs in
    record {
      ends = call-answered x w a.datagram.now a.reply.now g p;
      small = call-small x w a.datagram.now a.reply.now g p;
      changes = call-changes x w a.datagram.now a.reply.now g p;
    }
