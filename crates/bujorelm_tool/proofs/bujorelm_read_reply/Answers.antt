-- `bujorelm_read_reply` meets its contract.
-- Assumes nothing.
use Rattle.tool_meets_board_spec.proofs.MeetingLaws.{halves_meet}
use Rattle.bujorelm_tool.proofs.ToolLaws.{replies}
use Rattle.bujorelm_tool.proofs.bujorelm_read_reply.Goals as goal

pub returns-clause-refusal : goal.returns-clause-refusal
returns-clause-refusal c = (replies c.args.datagram.now c.reply_into.ensures.fields c.read_reply.ensures.fields).1

pub returns-clause-meets : goal.returns-clause-meets
returns-clause-meets c = halves_meet
