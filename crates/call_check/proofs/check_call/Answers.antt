-- `check_call` meets its contract: the description, and then the reply buffer.
-- Assumes nothing.
use mathlib.Core.Path.{refl, sym, ◌∙◌}
use Rattle.std.proofs.lemmas.Result.{err_from_is_err_and}
use Rattle.call_check.proofs.Laws.{positioned_first, positioned_behind}
use Rattle.call_check.proofs.check_call.Goals as goal

pub returns-in_err-check_description-clause-position : goal.returns-in_err-check_description-clause-position
returns-in_err-check_description-clause-position c =
    let p = err_from_is_err_and c.from_residual.result c.from_residual.ensures.1 in
    rw (p.1, p.2) (positioned_first _ _ _ _ (sym c.check_description.ensures ∙ c.in_err-check_description.was))

pub returns-then-reply_len-lt-LONGEST_REPLY-clause-position : goal.returns-then-reply_len-lt-LONGEST_REPLY-clause-position
returns-then-reply_len-lt-LONGEST_REPLY-clause-position c = positioned_behind _ _ _ _ _ refl (sym c.check_description.ensures ∙ c.in_ok-check_description.was)

pub returns-clause-position : goal.returns-clause-position
returns-clause-position c = positioned_behind _ _ _ _ _ refl (sym c.check_description.ensures ∙ c.in_ok-check_description.was)
