-- `can_frame_bytes::put_frame` meets its contract.
-- Assumes nothing.
use Rattle.std.proofs.Common.{arith}
use Rattle.can_frame_bytes.proofs.LayoutLaws.{frame-wide, frame-none, frame-lent}
use Rattle.can_frame_bytes.proofs.put_frame.Goals as goal
use Rattle.can_frame_bytes.proofs.put_frame.Goals.{else-part-le8-via-then-part-le8+else-n-frames, else-part-le8-via-else-part-le8}

pub returns-then-n-frames : goal.returns-then-n-frames
returns-then-n-frames c = frame-lent _ _ _ _ (omega arith) (omega arith) c.put_into.ensures

pub returns-else-part-le8 : goal.returns-else-part-le8
returns-else-part-le8 c =
    elim c.else-part-le8.branch [
      | else-part-le8-via-then-part-le8+else-n-frames w ↦ frame-none _ _ _ _ (omega arith) (omega arith)
      | else-part-le8-via-else-part-le8 w ↦ frame-wide _ _ _ _ (omega arith)
    ]
