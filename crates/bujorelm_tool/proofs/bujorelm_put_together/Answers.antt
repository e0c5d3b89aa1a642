-- `bujorelm_put_together` meets its contract.
-- Assumes nothing.
use Rattle.mask_effects_spec.proofs.OrderLaws.{writes-add_up}
use Rattle.bujorelm_tool.proofs.bujorelm_put_together.Goals as goal

pub returns-clause-adds_up : goal.returns-clause-adds_up
returns-clause-adds_up c = writes-add_up
