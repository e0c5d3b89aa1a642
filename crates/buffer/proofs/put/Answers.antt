-- `buffer::put` meets its contract.
-- Assumes nothing.
use native.Mathlib.Omega.{arith}
use lib.ListN.{length-set}
use Rattle.buffer.proofs.Laws.{placed-not, put_step, put_done}
use Rattle.buffer.proofs.put.Goals as goal
use Rattle.buffer.proofs.put.Goals.{else-at-dst-via-then-at-dst+else-src-dst, else-at-dst-via-else-at-dst}

pub loop-i-preserved : goal.loop-i-preserved
loop-i-preserved c =
    let a = c.args in
    let l = c.loop-i in
    (omega arith, put_step a.dst.now a.src.now a.at l.i l.invariant.1 (omega arith) (omega arith), simp length-set l.invariant.2)

pub returns-after-loop-i : goal.returns-after-loop-i
returns-after-loop-i c =
    let a = c.args in
    put_done a.dst.now a.src.now a.at c.loop-i.i c.loop-i.invariant.1 (omega arith) (omega arith)

pub returns-else-at-dst : goal.returns-else-at-dst
returns-else-at-dst c =
    let a = c.args in
    placed-not a.at a.src.now a.dst.now (
    elim c.else-at-dst.branch [ else-at-dst-via-then-at-dst+else-src-dst w ↦ omega arith | else-at-dst-via-else-at-dst w ↦ omega arith ]
    )
