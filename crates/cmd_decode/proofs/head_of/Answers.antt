-- `head_of` meets its contract: what remains is what is behind the head.
-- Assumes nothing.
use native.Mathlib.Omega.{arith}
use borrow.Author.Tests.{ltb-false}
use Rattle.std.proofs.lemmas.Result.{err_from_is_err_and}
use Rattle.cmd_decode.proofs.Laws.{remains}
use Rattle.cmd_decode.proofs.head_of.Goals as goal

pub returns-in_err-check : goal.returns-in_err-check
returns-in_err-check c =
    let o = c in
    let d = o.args.datagram.now in
    let p = err_from_is_err_and c.from_residual.result c.from_residual.ensures.1 in
    let l = ltb-false _ _ c.in_err-check.ensures.1 in
    let r = remains d o.form_in-form.ensures o.head_length-length.ensures in
    rw (p.1, p.2) (c.in_err-check.ensures.0, omega arith)

pub returns : goal.returns
returns c =
    let o = c in
    let d = o.args.datagram.now in
    (o.form_in-form.ensures, c.target_of-target.ensures.0, c.target_of-target.ensures.1, remains d o.form_in-form.ensures o.head_length-length.ensures)
