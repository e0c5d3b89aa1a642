-- `capi_lines::line_in_bytes` meets its contract.
-- Assumes nothing.
use Rattle.std.proofs.Common.{rules, ℕ, List, ◌∷◌, ap, ◌∙◌, append-nil}
use Rattle.capi_lines.specs.Lines.{line_bytes}
use Rattle.capi_lines.proofs.CarryLaws.{put-between}
use Rattle.capi_lines.proofs.line_in_bytes.Goals as goal

pub returns-in-Some : goal.returns-in-Some
unfolding line_bytes
returns-in-Some c =
    let b = c.parsed_in_bytes in
    rw c.in-Some.is (put-between 4 20 b.result _ (search (rules, b.type_inv)) (search rules) c.put.ensures ∙ ap (λ (l : List ℕ). 1 ∷ 0 ∷ 0 ∷ 0 ∷ l) (append-nil b.result ∙ b.ensures))
