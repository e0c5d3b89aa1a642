-- `answer_chunk` meets its contract. The invariant: the chunk is answered up to the index that the loop has come to.
-- Assumes nothing.
use native.Mathlib.Omega.{arith}
use Rattle.gridconnect_frames.proofs.RoomLaws.{room_none, room_there}
use Rattle.gridconnect_session_spec.proofs.SessionLaws.{any_chunks}
use Rattle.gridconnect_session.proofs.ChunkLaws.{going_start, going_next, going_full, going_end, step_onward}
use Rattle.gridconnect_session.proofs.answer_chunk.Goals as goal

pub loop-at-init : goal.loop-at-init
loop-at-init c = going_start _ _ _ _ _ _ _

pub returns-then-not-has_room : goal.returns-then-not-has_room
returns-then-not-has_room c = record {
  answers = going_full _ _ _ _ _ _ _ _ _ _ _ _ _ c.loop-at.invariant (room_none _ _ c.has_room.ensures c.if-not-has_room.true);
  cuts = any_chunks _;
}

pub answer_next-end-requires : goal.answer_next-end-requires
answer_next-end-requires c = room_there _ _ c.has_room.ensures c.if-not-has_room.false

pub loop-at-smaller : goal.loop-at-smaller
loop-at-smaller c =
    let n = c.next_line-next in
    let o = step_onward _ _ _ n.result n.ensures.value (omega arith) in
    omega arith

pub loop-at-preserved : goal.loop-at-preserved
loop-at-preserved c =
    let n = c.next_line-next in
    let room = room_there _ _ c.has_room.ensures c.if-not-has_room.false in
    going_next _ _ _ _ _ _ _ _ _ _ _ _ _ c.loop-at.invariant (omega arith) room n.result n.ensures.value n.ensures.step
    _ _ _ _ c.answer_next-end.ensures

pub returns : goal.returns
returns c = record { answers = going_end _ _ _ _ _ _ _ _ _ _ _ _ _ c.loop-at.invariant (omega arith); cuts = any_chunks _ }
