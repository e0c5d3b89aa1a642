-- `decode_read` meets its contract: each answer by the law of its case.
-- Assumes nothing.
use native.Mathlib.Omega.{arith}
use Rattle.std.proofs.lemmas.Result.{err_from_is_err_and}
use Rattle.cmd_decode.proofs.Laws.{read-none, read-length, read-count, read-right, not-empty}
use Rattle.cmd_decode.proofs.decode_read.Goals as goal

pub returns-in_err-head : goal.returns-in_err-head
returns-in_err-head c =
    let p = err_from_is_err_and c.from_residual.result c.from_residual.ensures.1 in
    rw (p.1, p.2, c.in_err-head.ensures.0) (read-none _ c.in_err-head.ensures.1)

pub returns-in_err-check : goal.returns-in_err-check
returns-in_err-check c =
    let p = err_from_is_err_and c.from_residual-in_err-check.result c.from_residual-in_err-check.ensures.1 in
    rw (p.1, p.2, c.in_err-check.ensures.0) (read-length _ _ c.in_ok-head.ensures c.in_err-check.ensures.1)

pub overflow_sub-datagram : goal.overflow_sub-datagram
overflow_sub-datagram c = not-empty _ _ c.in_ok-head.ensures c.in_ok-check.ensures

pub bounds-datagram-datagram : goal.bounds-datagram-datagram
bounds-datagram-datagram c = let l = not-empty _ _ c.in_ok-head.ensures c.in_ok-check.ensures in omega arith

pub returns-in_err-check-2 : goal.returns-in_err-check-2
returns-in_err-check-2 c =
    let p = err_from_is_err_and c.from_residual-in_err-check-2.result c.from_residual-in_err-check-2.ensures.1 in
    rw (p.1, p.2, c.in_err-check-2.ensures.0)
    (read-count _ _ c.in_ok-head.ensures c.in_ok-check.ensures c.count_in-count.ensures c.count_fits.ensures c.in_err-check-2.ensures.1)

pub returns : goal.returns
returns c = read-right _ _ c.in_ok-head.ensures c.in_ok-check.ensures c.count_in-count.ensures c.count_fits.ensures c.in_ok-check-2.ensures
