-- `decode_masked` meets its contract: each answer by the law of its case.
-- Assumes nothing.
use Rattle.std.proofs.lemmas.Result.{err_from_is_err_and}
use Rattle.cmd_decode.proofs.Laws.{masked-none, masked-length, masked-right}
use Rattle.cmd_decode.proofs.decode_masked.Goals as goal

pub returns-in_err-head : goal.returns-in_err-head
returns-in_err-head c =
    let p = err_from_is_err_and c.from_residual.result c.from_residual.ensures.1 in
    rw (p.1, p.2, c.in_err-head.ensures.0) (masked-none _ c.in_err-head.ensures.1)

pub returns-in_err-check : goal.returns-in_err-check
returns-in_err-check c =
    let p = err_from_is_err_and c.from_residual-in_err-check.result c.from_residual-in_err-check.ensures.1 in
    rw (p.1, p.2, c.in_err-check.ensures.0) (masked-length _ _ c.in_ok-head.ensures c.pairs_fit.ensures c.in_err-check.ensures.1)

pub returns : goal.returns
returns c = masked-right _ _ c.in_ok-head.ensures c.pairs_fit.ensures c.in_ok-check.ensures
