-- `space_in` meets its contract.
-- Assumes nothing.
use Rattle.std.proofs.Common.{◌∙◌, arith}
use Rattle.buffer.proofs.LeastLaws.{whole-number}
use Rattle.space_table.specs.Table.{row_at}
use Rattle.space_table.proofs.space_in.Goals as goal

pub returns : goal.returns
unfolding row_at
returns c =
    let row = c.args.row.now in
    let lowest = c.number_at.ensures ∙ whole-number row 4 (omega (arith, c.requires)) in
    let highest = c.number_at-2.ensures ∙ whole-number row 8 (omega (arith, c.requires)) in
    let offset = c.number_at-3.ensures ∙ whole-number row 12 (omega (arith, c.requires)) in
    cc
