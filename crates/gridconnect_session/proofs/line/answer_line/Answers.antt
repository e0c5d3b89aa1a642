-- `answer_line` meets its contract.
-- Assumes nothing.
use Rattle.rx_place_spec.specs.PlaceBytes.{state_in}
use Rattle.exec_spec.specs.LentBoard.{fixed_in, contents_in}
use Rattle.gridconnect_frames.proofs.RoomLaws.{room_none, room_there}
use Rattle.gridconnect_session_spec.proofs.TurnLaws.{line-none, line-unknown, line-handled}
use Rattle.gridconnect_session.proofs.line.answer_line.Goals as goal

pub returns-then-not-has_room : goal.returns-then-not-has_room
returns-then-not-has_room c = line-none _ _ _ _ _ _ (room_none _ _ c.has_room.ensures c.if-not-has_room.true)

pub returns-in_default : goal.returns-in_default
returns-in_default c =
    let room = room_there _ _ c.has_room.ensures c.if-not-has_room.false in
    rw c.in_default.is (line-unknown _ _ _ _ _ room c.print_unknown.ensures)

pub returns : goal.returns
returns c =
    let a = c.args in
    let x = fixed_in a.board.now in
    let st = state_in a.places.now a.pool.now in
    let w = contents_in a.memory.now a.registers.now in
    let room = room_there _ _ c.has_room.ensures c.if-not-has_room.false in
    let e = c.answer_frame-sent.ensures.ends in
    rw c.in-Some.is (line-handled x st w a.at a.out.now room c.in-Some.frame c.part.ensures e.ends.answers e.ends.keeps e.sent c.print_frames.ensures)
