-- `can_frame_bytes::put_data` meets its contract.
-- Assumes nothing.
use Rattle.std.proofs.Common.{arith}
use Rattle.can_frame_bytes.proofs.LayoutLaws.{data-eight, data-few}
use Rattle.can_frame_bytes.proofs.put_data.Goals as goal

pub returns-then-part-eq8 : goal.returns-then-part-eq8
returns-then-part-eq8 c =
    let a = c.args in
    data-eight a.part.now a.frame.now (omega arith) (omega arith) c.put.ensures c.put-then-part-eq8.ensures

pub returns : goal.returns
returns c = data-few _ _ (omega arith) c.put-2.ensures (omega arith) c.put-3.ensures
