-- `node_send::send_answer` meets its contract: each answer by its own frames.
-- Assumes nothing.
use Rattle.node_send.proofs.SendingLaws.{answer-rejected, answer-written, answer-complete, answer-replied}
use Rattle.node_send.proofs.send_answer.Goals as goal

pub returns-in-Rejected : goal.returns-in-Rejected
returns-in-Rejected c =
    let a = c.args in
    answer-rejected a.board a.tool a.reply.now c.in-Rejected.is (c.rejected.ensures.count, c.rejected.ensures.bytes)

pub returns-in-Written : goal.returns-in-Written
returns-in-Written c =
    let a = c.args in
    answer-written a.board a.tool a.reply.now c.in-Written.is (c.received_ok.ensures.count, c.received_ok.ensures.bytes)

pub returns-in-UpdateComplete : goal.returns-in-UpdateComplete
returns-in-UpdateComplete c =
    let a = c.args in
    let ok = c.received_ok-in-UpdateComplete.ensures in
    answer-complete a.board a.tool a.reply.now c.in-UpdateComplete.is (ok.count, ok.bytes)

pub returns-in-Replied : goal.returns-in-Replied
returns-in-Replied c =
    let a = c.args in
    let sent = c.received_ok_then.ensures in
    answer-replied a.board a.tool a.reply.now c.in-Replied.is c.part-datagram.ensures (sent.count, sent.bytes)
