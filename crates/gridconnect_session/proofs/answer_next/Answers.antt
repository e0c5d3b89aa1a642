-- `answer_next` meets its contract.
-- Assumes nothing.
use Rattle.rx_place_spec.specs.PlaceBytes.{state_in}
use Rattle.exec_spec.specs.LentBoard.{fixed_in, contents_in}
use Rattle.gridconnect_session.proofs.ChunkLaws.{step_none, step_line}
use Rattle.gridconnect_session.proofs.answer_next.Goals as goal

pub returns-in_default : goal.returns-in_default
returns-in_default c = rw c.in_default.is (step_none _ _ _ _ _ c.requires)

pub returns : goal.returns
returns c =
    let a = c.args in
    let x = fixed_in a.board.now in
    let st = state_in a.places.now a.pool.now in
    let w = contents_in a.memory.now a.registers.now in
    rw c.in-Some.is (step_line x st w a.at a.out.now c.requires c.in-Some.parsed c.answer_line.ensures)
