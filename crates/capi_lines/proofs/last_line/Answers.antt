-- `capi_lines::last_line` meets its contract.
-- Assumes nothing.
use mathlib.Core.Path.{ap, ◌∙◌}
use Rattle.gridconnect_input.specs.declared.Next.{Next}
use Rattle.capi_lines.specs.Lines.{line_bytes, carry_bytes}
use Rattle.capi_lines.proofs.CarryLaws.{same-last}
use Rattle.capi_lines.proofs.last_line.Goals as goal

pub returns : goal.returns
returns c =
    let e = c.last_line.ensures.value ∙ same-last c.carry_in.ensures in
    let step = c.take_step.ensures in
    record { given = step.given ∙ ap (λ (n : Next). line_bytes n.line) e; carried = step.carried ∙ ap (λ (n : Next). carry_bytes n.carry) e }
