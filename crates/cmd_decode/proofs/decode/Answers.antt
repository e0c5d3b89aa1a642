-- `decode` meets its contract: each answer by the law of its case.
-- Assumes nothing.
use mathlib.Core.Path.{◌∙◌}
use native.Mathlib.Omega.{arith}
use borrow.Author.Tests.{ltb-true, ltb-false, leb-true, leb-false}
use Rattle.std.proofs.lemmas.Result.{err_from_is_err_and}
use Rattle.cmd_decode.proofs.Laws.{decode-empty, decode-long, decode-other, decode-bare, decode-command}
use Rattle.cmd_decode.proofs.decode.Goals as goal

pub returns-in_err-check : goal.returns-in_err-check
returns-in_err-check c =
    let p = err_from_is_err_and c.from_residual.result c.from_residual.ensures.1 in
    let z = ltb-false _ _ c.in_err-check.ensures.1 in
    rw (p.1, p.2, c.in_err-check.ensures.0) (decode-empty _ (omega arith))

pub returns-in_err-check-2 : goal.returns-in_err-check-2
returns-in_err-check-2 c =
    let p = err_from_is_err_and c.from_residual-in_err-check-2.result c.from_residual-in_err-check-2.ensures.1 in
    let l = leb-false _ _ c.in_err-check-2.ensures.1 in
    rw (p.1, p.2, c.in_err-check-2.ensures.0) (decode-long _ (λ z. omega arith) l)

pub returns-then-datagram-ne-MEMORY_CONFIGURATION : goal.returns-then-datagram-ne-MEMORY_CONFIGURATION
returns-then-datagram-ne-MEMORY_CONFIGURATION c =
    let l = ltb-true _ _ c.in_ok-check.ensures in
    decode-other _ (λ z. omega arith) (leb-true _ _ c.in_ok-check-2.ensures) c.if-datagram-ne-MEMORY_CONFIGURATION.true

pub returns-in_err-check-3 : goal.returns-in_err-check-3
returns-in_err-check-3 c =
    let p = err_from_is_err_and c.from_residual-in_err-check-3.result c.from_residual-in_err-check-3.ensures.1 in
    let l = ltb-true _ _ c.in_ok-check.ensures in
    let b = ltb-false _ _ c.in_err-check-3.ensures.1 in
    rw (p.1, p.2, c.in_err-check-3.ensures.0)
    (decode-bare _ (λ z. omega arith) (leb-true _ _ c.in_ok-check-2.ensures) c.if-datagram-ne-MEMORY_CONFIGURATION.false (omega arith))

pub returns : goal.returns
returns c =
    let l = ltb-true _ _ c.in_ok-check.ensures in
    let b = ltb-true _ _ c.in_ok-check-3.ensures in
    c.decode_kind.ensures
    ∙ decode-command _ (λ z. omega arith) (leb-true _ _ c.in_ok-check-2.ensures) c.if-datagram-ne-MEMORY_CONFIGURATION.false (λ e. omega arith)
