-- The chunk is answered up to the index that the loop has come to.
use Rattle.std.proofs.Common.{◌-◌, length}
use Rattle.rx_place_spec.specs.PlaceBytes.{state_in}
use Rattle.exec_spec.specs.LentBoard.{fixed_in, contents_in}
use Rattle.gridconnect_session.proofs.ChunkLaws.{Going}
use Rattle.gridconnect_session.proofs.answer_chunk.Given as goal

abbrev pub invariant-loop-at : goal.invariant-loop-at
invariant-loop-at l =
    Going (fixed_in l.board) (state_in l.initial.places l.initial.pool)
    (contents_in l.initial.memory l.initial.registers) l.initial.carry l.chunk l.from l.initial.out l.at l.carry l.end l.out
    (contents_in l.memory l.registers) (state_in l.places l.pool)

abbrev pub decreases-loop-at : goal.decreases-loop-at
decreases-loop-at l = length l.chunk - l.at
