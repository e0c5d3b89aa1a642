-- `put_part` meets its contract.
-- Assumes nothing.
use lib.ListN.{drop}
use Rattle.hex_print.proofs.PutLaws.{put_none}
use Rattle.hex_print.proofs.put_part.Goals as goal

pub returns-then-not-wanted-clause-out : goal.returns-then-not-wanted-clause-out
returns-then-not-wanted-clause-out c = rw c.if-not-wanted.true (put_none (drop c.args.from c.args.bytes.now) _ _)
