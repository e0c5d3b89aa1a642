-- `newline_in` meets its contract: the place of the first newline, or the length.
-- Assumes nothing.
use native.Mathlib.Omega.{arith}
use Rattle.gridconnect_input.proofs.NewlineLaws.{at_newline, passed, at_end_lem}
use Rattle.gridconnect_input.proofs.newline_in.Goals as goal

pub returns-then-bytes-i-eq10 : goal.returns-then-bytes-i-eq10
returns-then-bytes-i-eq10 c =
    let l = c.loop-i in
    let e = at_newline c.args.bytes.now l.i (omega arith) c.if-bytes-i-eq10.true in
    record { value = omega arith; within = omega arith }

pub loop-i-preserved : goal.loop-i-preserved
loop-i-preserved c =
    let l = c.loop-i in
    let e = passed c.args.bytes.now l.i (omega arith) c.if-bytes-i-eq10.false in
    (omega arith, omega arith)

pub returns : goal.returns
returns c =
    let l = c.loop-i in
    let e = at_end_lem c.args.bytes.now l.i (omega arith) in
    record { value = omega arith; within = omega arith }
