-- `put_changes` meets its contract: what is left of the pairs, put behind what is done, gives the whole.
-- Assumes nothing.
use mathlib.Core.Path.{◌∙◌}
use Rattle.mask_diff.proofs.LoopLaws.{put_turn, put_done}
use Rattle.mask_diff.proofs.put_changes.Goals as goal

pub loop-i-preserved : goal.loop-i-preserved
loop-i-preserved c =
    let a = c.args in
    let l = c.loop-i in
    l.invariant ∙ put_turn a.old.now a.new.now c.requires.0 l.i l.pairs c.loop-i-test.true

pub returns : goal.returns
returns c =
    let a = c.args in
    let l = c.loop-i in
    put_done a.old.now a.new.now c.requires.0 a.pairs.now l.pairs l.i c.loop-i-test.false c.requires.1 l.invariant
