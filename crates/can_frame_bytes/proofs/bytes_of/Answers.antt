-- `can_frame_bytes::bytes_of` meets its contract.
-- Assumes nothing.
use Rattle.std.proofs.Common.{rules, refl}
use Rattle.can_frame_bytes.proofs.LayoutLaws.{bytes-into}
use Rattle.can_frame_bytes.proofs.bytes_of.Goals as goal

pub returns : goal.returns
returns c =
    let a = c.args in
    bytes-into a.header a.len a.bytes _ refl (search (rules, c.well_formed)) c.head_of.ensures c.put.ensures c.put-2.ensures
