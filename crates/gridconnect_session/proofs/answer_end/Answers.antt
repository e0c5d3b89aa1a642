-- `answer_end` meets its contract.
-- Assumes nothing.
use Rattle.rx_place_spec.specs.PlaceBytes.{state_in}
use Rattle.exec_spec.specs.LentBoard.{fixed_in, contents_in}
use Rattle.gridconnect_frames.proofs.RoomLaws.{room_none, room_there}
use Rattle.gridconnect_session.proofs.ChunkLaws.{end_none, end_line}
use Rattle.gridconnect_session.proofs.answer_end.Goals as goal

pub returns-then-not-has_room : goal.returns-then-not-has_room
returns-then-not-has_room c = end_none _ _ _ _ _ (room_none 0 _ c.has_room.ensures c.if-not-has_room.true)

pub answer_next-requires : goal.answer_next-requires
answer_next-requires c = room_there 0 _ c.has_room.ensures c.if-not-has_room.false

pub returns : goal.returns
returns c =
    let a = c.args in
    let x = fixed_in a.board.now in
    let st = state_in a.places.now a.pool.now in
    let w = contents_in a.memory.now a.registers.now in
    let room = room_there 0 _ c.has_room.ensures c.if-not-has_room.false in
    end_line x st w a.carry a.out.now room c.last_line-last.ensures.value c.answer_next.ensures
