-- `first_change` meets its contract: what is found from an index on is what is found behind the bytes that are the same.
-- Assumes nothing.
use Rattle.std.proofs.Common.{◌∙◌, arith}
use Rattle.mask_diff.proofs.PlaceLaws.{found-later, first-some, first-none}
use Rattle.mask_diff.proofs.first_change.Goals as goal

pub loop-i-preserved : goal.loop-i-preserved
loop-i-preserved c =
    let a = c.args in
    let l = c.loop-i in
    l.invariant ∙ found-later a.old.now a.new.now c.requires l.i c.loop-i-test.true c.if-old-i.false

pub returns-then-old-i-clause-first : goal.returns-then-old-i-clause-first
returns-then-old-i-clause-first c =
    let a = c.args in
    let l = c.loop-i in
    first-some a.old.now a.new.now c.requires a.from l.i l.invariant c.loop-i-test.true c.if-old-i.true

pub returns-clause-first : goal.returns-clause-first
returns-clause-first c =
    let a = c.args in
    let l = c.loop-i in
    first-none a.old.now a.new.now c.requires a.from l.i l.invariant (omega arith)
