-- `tx_transport::received_ok_then` meets its contract.
-- Assumes nothing.
use native.Mathlib.Omega.{arith}
use Rattle.tx_transport.proofs.ThenLaws.{ok_wide, ok_fit, then_none, then_cut}
use Rattle.tx_transport.proofs.received_ok_then.Goals as goal

pub returns-then-received_ok-eq0 : goal.returns-then-received_ok-eq0
returns-then-received_ok-eq0 c =
    let a = c.args in
    let ok = c.received_ok.ensures in
    let made = then_none a.board a.tool a.flags a.reply.now a.frames.now ok.bytes (ok_wide a.board a.tool a.flags ok.count (omega arith)) in
    record { count = made.0; bytes = made.1 }

pub returns : goal.returns
returns c =
    let a = c.args in
    let ok = c.received_ok.ensures in
    let cut = c.cut_behind.ensures in
    let made = then_cut a.board a.tool a.flags a.reply.now a.frames.now ok.bytes (ok_fit a.board a.tool a.flags ok.count (omega arith)) (cut.count, cut.bytes) in
    record { count = made.0; bytes = made.1 }
