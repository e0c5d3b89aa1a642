-- `answer_datagram` meets its contract.
-- Assumes nothing.
use Rattle.exec_spec.specs.LentBoard.{fixed_in, contents_in}
use Rattle.node_spec.proofs.CallLaws.{answers-finish}
use Rattle.node_call.proofs.frames.answer_datagram.Goals as goal

pub returns : goal.returns
returns c =
    let a = c.args in
    answers-finish (fixed_in a.board.now) (contents_in a.memory.now a.registers.now) a.datagram.now a.reply.now
    c.requires c.handle.ensures.performs
