-- `capi_lines::carry_in` meets its contract.
-- Assumes nothing.
use Rattle.capi_lines.proofs.CarryLaws.{nothing-begun, text-begun}
use Rattle.capi_lines.proofs.carry_in.Goals as goal

pub returns-then-bytes-eq0 : goal.returns-then-bytes-eq0
returns-then-bytes-eq0 c = nothing-begun c.args.bytes.now c.if-bytes-eq0.true c.start.ensures.carry

pub returns : goal.returns
returns c = text-begun c.args.bytes.now c.text_in-text.ensures
