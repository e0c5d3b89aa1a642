-- `count_changes` meets its contract: the first pair of bytes from the end that differ is the last.
-- Assumes nothing.
use Rattle.std.proofs.Common.{arith}
use Rattle.mask_diff.proofs.PlaceLaws.{none-past, none-from, last-at, none-last}
use Rattle.mask_diff.proofs.count_changes.Goals as goal

pub loop-i-init : goal.loop-i-init
loop-i-init c = none-past c.args.old.now c.args.new.now c.requires

pub loop-i-preserved : goal.loop-i-preserved
loop-i-preserved c =
    let l = c.loop-i in
    none-from c.args.old.now c.args.new.now c.requires l.i c.loop-i-test.true l.auto.i c.if-old-i.false l.invariant

pub returns-then-old-i-clause-last : goal.returns-then-old-i-clause-last
returns-then-old-i-clause-last c =
    let l = c.loop-i in
    last-at c.args.old.now c.args.new.now c.requires l.i c.loop-i-test.true l.auto.i c.if-old-i.true l.invariant

pub returns-clause-last : goal.returns-clause-last
returns-clause-last c =
    let l = c.loop-i in
    none-last c.args.old.now c.args.new.now c.requires l.i (omega arith) l.invariant
