-- `put_command` meets its contract.
-- Assumes nothing.
use Rattle.std.proofs.Common.{arith, refl, ◌∙◌, [], ◌∷◌}
use Rattle.buffer.specs.BigEndian.{bytes_of}
use Rattle.buffer.proofs.Laws.{put_first, put_sets, place-over}
use Rattle.reply_head.proofs.put_command.Goals as goal

pub returns : goal.returns
returns c =
    let a = c.args in
    let front = put_sets 0 (0x20 ∷ a.command ∷ []) a.reply.now (omega arith) ∙ put_first (0x20 ∷ a.command ∷ []) a.reply.now in
    c.put.ensures ∙ rw c.bytes.ensures (place-over (0x20 ∷ a.command ∷ []) (bytes_of a.address) a.reply.now 2 front refl (omega arith))
