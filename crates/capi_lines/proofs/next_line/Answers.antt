-- `capi_lines::next_line` meets its contract.
-- Assumes nothing.
use mathlib.Core.Path.{ap, ◌∙◌}
use Rattle.gridconnect_input.proofs.StepLaws.{line-again}
use Rattle.gridconnect_input.specs.declared.Next.{Next}
use Rattle.capi_lines.specs.Lines.{line_bytes, carry_bytes, carry_in}
use Rattle.capi_lines.proofs.CarryLaws.{same_next, carry-again}
use Rattle.capi_lines.proofs.next_line.Goals as goal

pub returns-in-Some : goal.returns-in-Some
returns-in-Some c =
    let a = c.args in
    let e = c.next_line-next.ensures.value ∙ same_next c.carry_in.ensures a.chunk.now a.from in
    let f = c.completed.ensures ∙ line-again (carry_in a.carry.now) a.chunk.now a.from e c.in-Some.is in
    let step = c.take_step.ensures in
    record {
      value = ap (λ (n : Next). n.at) e;
      step = record { given = step.given ∙ ap (λ (n : Next). line_bytes n.line) f; carried = step.carried ∙ ap (λ (n : Next). carry_bytes n.carry) f };
      again = carry-again;
    }

pub returns : goal.returns
returns c =
    let a = c.args in
    let e = c.next_line-next.ensures.value ∙ same_next c.carry_in.ensures a.chunk.now a.from in
    let step = c.take_step-2.ensures in
    record {
      value = ap (λ (n : Next). n.at) e;
      step = record { given = step.given ∙ ap (λ (n : Next). line_bytes n.line) e; carried = step.carried ∙ ap (λ (n : Next). carry_bytes n.carry) e };
      again = carry-again;
    }
