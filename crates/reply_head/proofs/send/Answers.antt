-- `send` meets its contract: the reply is put together of three pieces.
-- Assumes nothing.
use mathlib.Core.Path.{sym}
use Prim.Native.Nat.{◌+◌, ◌≤◌}
use native.Mathlib.Omega.{arith}
use lib.ListN.{length}
use Rattle.reply_answer.proofs.AnswerLaws.{no_room, has_room}
use Rattle.reply_head.proofs.HeadLaws.{reply-length, three_pieces}
use Rattle.reply_head.proofs.send.Goals as goal
use Rattle.reply_head.proofs.send.Goals.{then-reply-n-via-then-reply-n, then-reply-n-via-else-reply-n+then-reply-n-2}

pub returns-then-reply-n : goal.returns-then-reply-n
returns-then-reply-n c =
    let a = c.args in
    let long = reply-length a.command a.form a.space a.address _ a.src.now a.reply.now c.head_length-n.ensures.0 in
    no_room _ _ (
    elim c.then-reply-n.branch [ then-reply-n-via-then-reply-n w ↦ omega (arith, long) | then-reply-n-via-else-reply-n+then-reply-n-2 w ↦ omega (arith, long) ]
    )

pub returns : goal.returns
returns c =
    let a = c.args in
    let n = c.head_length-n in
    let l = reply-length a.command a.form a.space a.address _ a.src.now a.reply.now n.ensures.0 in
    let h : n.result + length a.src.now ≤ length a.reply.now = omega arith in
    has_room _ _ (omega (arith, l)) (sym l)
    (three_pieces _ _ _ _ _ _ _ n.ensures.0 h
    c.with_form.ensures c.put_command.ensures c.put_space.ensures c.put.ensures)
