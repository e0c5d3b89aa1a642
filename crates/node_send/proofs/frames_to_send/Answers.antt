-- `node_send::frames_to_send` meets its contract: each answer by its own frames.
-- Assumes nothing.
use mathlib.Core.Path.{◌≡◌}
use Rattle.node_spec.specs.declared.FrameAnswer.TheVariants.{Ignored, Nothing, TransportRefusal, Answered}
use Rattle.node_send.specs.Sending.{frames_to_send}
use Rattle.node_send.proofs.SendingLaws.{made_none, made_rejected}
use Rattle.node_send.proofs.frames_to_send.Goals as goal

pub returns-in-Err : goal.returns-in-Err
unfolding frames_to_send
returns-in-Err c = rw c.in-Err.is (made_none _)

pub returns-in-Ok-Ignored : goal.returns-in-Ok-Ignored
unfolding frames_to_send
returns-in-Ok-Ignored c =
    let e : c.in-Ok-Ignored.field-0 ≡ Ignored = rw c.in-Ok-Ignored.is at c.in-Ok-Ignored.field-0-is in
    rw (c.in-Ok-Ignored.is, e) (made_none _)

pub returns-in-Ok-Nothing : goal.returns-in-Ok-Nothing
unfolding frames_to_send
returns-in-Ok-Nothing c =
    let e : c.in-Ok-Nothing.field-0 ≡ Nothing = rw c.in-Ok-Nothing.is at c.in-Ok-Nothing.field-0-is in
    rw (c.in-Ok-Nothing.is, e) (made_none _)

pub returns-in-Ok-TransportRefusal : goal.returns-in-Ok-TransportRefusal
unfolding frames_to_send
returns-in-Ok-TransportRefusal c =
    let e : c.in-Ok-TransportRefusal.field-0 ≡ TransportRefusal c.in-Ok-TransportRefusal.code = rw c.in-Ok-TransportRefusal.is at c.in-Ok-TransportRefusal.field-0-is in
    rw (c.in-Ok-TransportRefusal.is, e) (made_rejected _ _ _ (c.rejected.ensures.count, c.rejected.ensures.bytes))

pub returns-in-Ok-Answered : goal.returns-in-Ok-Answered
unfolding frames_to_send
returns-in-Ok-Answered c =
    let e : c.in-Ok-Answered.field-0 ≡ Answered c.in-Ok-Answered.done = rw c.in-Ok-Answered.is at c.in-Ok-Answered.field-0-is in
    rw (c.in-Ok-Answered.is, e) c.send_answer.ensures
