-- `is_used` meets its contract. The invariant: the number is used where one of the spaces left has it.
-- Assumes nothing.
use mathlib.Core.Path.{sym, ◌∙◌}
use native.Mathlib.Omega.{arith}
use Rattle.call_check.proofs.Laws.{used_hit, used_miss, used_none}
use Rattle.call_check.proofs.checks.is_used.Goals as goal

pub returns-then-table-row : goal.returns-then-table-row
returns-then-table-row c =
    let a = c.args in
    let l = c.loop-row in
    sym (l.invariant.1 ∙ used_hit a.table.now l.row a.count a.number (omega arith) c.if-table-row.true)

pub loop-row-preserved : goal.loop-row-preserved
loop-row-preserved c =
    let a = c.args in
    let l = c.loop-row in
    (omega arith, l.invariant.1 ∙ used_miss a.table.now l.row a.count a.number (omega arith) c.if-table-row.false)

pub returns : goal.returns
returns c =
    let a = c.args in
    let l = c.loop-row in
    sym (l.invariant.1 ∙ used_none a.table.now l.row a.count a.number (omega arith))
