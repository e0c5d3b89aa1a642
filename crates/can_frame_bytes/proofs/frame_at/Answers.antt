-- `can_frame_bytes::frame_at` meets its contract.
-- Assumes nothing.
use Rattle.std.proofs.Common.{rules, arith}
use Rattle.can_frame_bytes.proofs.LayoutLaws.{frame-read, eight-put}
use Rattle.can_frame_bytes.proofs.frame_at.Goals as goal

pub returns : goal.returns
returns c =
    let a = c.args in
    frame-read a.bytes.now a.at _ (omega arith) (omega arith) c.number_at.ensures c.number_at-2.ensures (eight-put _ (search rules) c.put.ensures)
