-- `information` meets its contract.
-- Assumes nothing.
use Rattle.std.proofs.Common.{inl, inr}
use Rattle.reply_datagram.specs.Inquiry.{information_reply}
use Rattle.reply_datagram.proofs.information.Goals as goal

pub returns-in-Empty : goal.returns-in-Empty
unfolding information_reply
returns-in-Empty c = elim c.in-Empty.is [ inl empty ↦ rw empty.1 c.absent.ensures | inr unknown ↦ rw unknown c.absent.ensures ]
