-- `whole` meets its contract.
-- Assumes nothing.
use mathlib.Core.Path.{refl}
use native.Mathlib.Omega.{arith}
use Rattle.buffer.proofs.Laws.{put_one}
use Rattle.reply_answer.proofs.AnswerLaws.{has_room}
use Rattle.reply_answer.proofs.whole.Goals as goal

pub returns : goal.returns
returns c =
    let a = c.args in
    has_room a.bytes.now a.reply.now (omega arith) refl (put_one a.bytes.now a.reply.now (omega arith) c.put.ensures)
