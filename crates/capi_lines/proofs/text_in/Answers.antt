-- `capi_lines::text_in` meets its contract.
-- Assumes nothing.
use Rattle.std.proofs.Common.{rules}
use Rattle.capi_lines.proofs.CarryLaws.{text-copied}
use Rattle.capi_lines.proofs.text_in.Goals as goal

pub returns : goal.returns
returns c = text-copied c.args.bytes.now (search (rules, c.well_formed)) c.put.ensures
