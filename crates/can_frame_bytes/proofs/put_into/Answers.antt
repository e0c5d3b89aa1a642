-- `can_frame_bytes::put_into` meets its contract.
-- Assumes nothing.
use native.Mathlib.Omega.{arith}
use Rattle.can_frame_bytes.proofs.LayoutLaws.{frame-into}
use Rattle.can_frame_bytes.proofs.put_into.Goals as goal

pub returns : goal.returns
returns c =
    let a = c.args in
    frame-into a.header a.part.now a.frame.now (omega arith) (omega arith) c.head_of-head.ensures c.put.ensures c.put_data.ensures
