-- `put_change` meets its contract: the bytes of each answer stand for it.
-- Assumes nothing.
use Rattle.std.proofs.Common.{rules}
use Rattle.mask_diff.proofs.NumberLaws.{change-stored}
use Rattle.mask_diff.proofs.put_change.Goals as goal

pub returns-in-Err-LengthsDiffer : goal.returns-in-Err-LengthsDiffer
returns-in-Err-LengthsDiffer c = change-stored c.args.next (search rules)

pub returns-in-Err-BufferTooShort : goal.returns-in-Err-BufferTooShort
returns-in-Err-BufferTooShort c = change-stored c.args.next (search rules)

pub returns-in-Ok-None : goal.returns-in-Ok-None
returns-in-Ok-None c = change-stored c.args.next (search rules)

pub returns-in-Ok-Some : goal.returns-in-Ok-Some
returns-in-Ok-Some c = change-stored c.args.next (search rules)
