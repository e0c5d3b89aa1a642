-- `can_frame_bytes::frame_in` meets its contract.
-- Assumes nothing.
use Rattle.can_frame_bytes.proofs.LayoutLaws.{frame-again}
use Rattle.can_frame_bytes.proofs.frame_in.Goals as goal

pub returns-clause-again : goal.returns-clause-again
returns-clause-again c = frame-again
