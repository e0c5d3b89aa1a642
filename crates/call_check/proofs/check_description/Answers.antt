-- `check_description` meets its contract: the limits, and then the spaces, which are 16 at most.
-- Assumes nothing.
use mathlib.Core.Path.{sym, ◌∙◌}
use Rattle.std.proofs.lemmas.Result.{err_from_is_err_and}
use Rattle.call_error.specs.CallErrors.{description_check}
use Rattle.call_error.proofs.Laws.{first_counts, second_counts}
use Rattle.call_check.proofs.check_description.Goals as goal

pub returns-in_err-check_limits : goal.returns-in_err-check_limits
unfolding description_check
returns-in_err-check_limits c =
    let p = err_from_is_err_and c.from_residual.result c.from_residual.ensures.1 in
    rw (p.1, p.2, ← c.space_count.ensures) (sym (first_counts _ _ (sym c.check_limits.ensures ∙ c.in_err-check_limits.was)))

pub returns : goal.returns
unfolding description_check
returns c =
    rw (← c.space_count.ensures)
    (c.check_spaces.ensures ∙ sym (second_counts _ _ (sym c.check_limits.ensures ∙ c.in_ok-check_limits.was)))
