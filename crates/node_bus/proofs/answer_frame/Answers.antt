-- `answer_frame` meets its contract, and demand 3 of frames in and frames out holds of it.
-- Assumes nothing.
use Rattle.can_frame.specs.Frame.{can_frame, source_of}
use Rattle.rx_place_spec.specs.PlaceBytes.{state_in}
use Rattle.exec_spec.specs.LentBoard.{fixed_in, contents_in}
use Rattle.node_spec.specs.FrameCall.{frame_call}
use Rattle.node_send.proofs.SendingLaws.{sent_is, bus_order}
use Rattle.node_bus.proofs.answer_frame.Goals as goal

pub returns-clause-ends : goal.returns-clause-ends
returns-clause-ends c =
    let a = c.args in
    let x = fixed_in a.board.now in
    let call = frame_call x a.reply.now a.tick (state_in a.places.now a.pool.now) (contents_in a.memory.now a.registers.now) (can_frame a.header a.payload.now) in
    let done = c.handle_frame-answer.ensures.ends in
    record {
      ends = record { answers = done.answers; keeps = done.keeps; small = done.small; changes = done.changes };
      sent = sent_is a.board.now.alias (source_of a.header) a.reply.now call.answer done.answers.answer done.answers.reply
          c.source_of-tool.ensures.0 c.frames_to_send-count.ensures;
    }

pub returns-clause-order : goal.returns-clause-order
returns-clause-order c = bus_order _
