-- `capi_lines::carry_in_bytes` meets its contract.
-- Assumes nothing.
use Rattle.std.proofs.Common.{rules}
use Rattle.capi_lines.proofs.CarryLaws.{put-between}
use Rattle.capi_lines.proofs.carry_in_bytes.Goals as goal

pub returns : goal.returns
returns c = put-between 1 29 c.args.text _ (search (rules, c.well_formed)) (search rules) c.put.ensures
