-- `put_space` meets its contract.
-- Assumes nothing.
use Rattle.std.proofs.Common.{◌≡◌, [], inl, inr}
use Rattle.cmd_fields.specs.Commands.{space_byte}
use Rattle.reply_head.proofs.HeadLaws.{no_byte}
use Rattle.reply_head.proofs.put_space.Goals as goal

pub returns-in-NoSpace : goal.returns-in-NoSpace
returns-in-NoSpace c =
    let a = c.args in
    let none : space_byte a.form a.space ≡ [] =
    elim c.in-NoSpace.is [ inl e ↦ rw e | inr f ↦ elim f [ inl e ↦ rw e | inr g ↦ elim g [ inl e ↦ rw e | inr e ↦ rw e ] ] ] in
    rw none (no_byte a.reply.now)
