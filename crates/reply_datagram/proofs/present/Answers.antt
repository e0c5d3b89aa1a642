-- `present` meets its contract.
-- Assumes nothing.
use native.Mathlib.Omega.{arith}
use Rattle.reply_datagram.proofs.Laws.{information-zero, information-lowest}
use Rattle.reply_datagram.proofs.present.Goals as goal

pub returns-then-space-eq0 : goal.returns-then-space-eq0
returns-then-space-eq0 c =
    let a = c.args in
    let f = c.access_flag-flag in
    rw (← information-zero a.number f.result a.space c.bytes-h.ensures f.ensures.0 c.if-space-eq0.true) c.whole.ensures

pub returns : goal.returns
returns c =
    let a = c.args in
    let f = c.access_flag-flag in
    rw (← information-lowest a.number f.result a.space c.bytes-h.ensures f.ensures.0 (λ e. omega arith) c.bytes-l.ensures) c.whole-2.ensures
