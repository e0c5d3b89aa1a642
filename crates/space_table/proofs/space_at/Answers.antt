-- `space_at` meets its contract.
-- Assumes nothing.
use Rattle.std.proofs.Common.{sym, ◌∙◌, arith}
use Rattle.space_table.proofs.TableLaws.{row-slice, space-in, space-out}
use Rattle.space_table.proofs.space_at.Goals as goal

pub returns-then-i-table : goal.returns-then-i-table
returns-then-i-table c =
    let a = c.args in
    c.space_in.ensures ∙ row-slice a.table.now a.i _ (omega arith) ∙ sym (space-in a.table.now a.i c.if-i-table.true)

pub returns : goal.returns
returns c =
    let a = c.args in
    sym (space-out a.table.now a.i c.if-i-table.false)
