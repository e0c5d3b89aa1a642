-- `parse_end` meets its contract.
-- Assumes nothing.
use mathlib.Core.Path.{◌∙◌}
use mathlib.Core.List.{◌++◌}
use Rattle.gridconnect_input.specs.Input.{begun_of}
use Rattle.gridconnect_input.proofs.CutLaws.{parse_carry}
use Rattle.gridconnect_lines.proofs.parse_end.Goals as goal

pub returns : goal.returns
returns c = c.parse_line-2.ensures.value ∙ parse_carry (begun_of c.args.carry ++ c.args.part.now) c.append-whole.ensures
