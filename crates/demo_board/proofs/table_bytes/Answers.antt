-- `table_bytes` meets its contract, and document 01's proved cases hold.
-- Assumes nothing.
use Rattle.demo_board.proofs.Cases.{proved_cases, four_rows}
use Rattle.demo_board.proofs.table_bytes.Goals as goal

pub returns-clause-spaces : goal.returns-clause-spaces
returns-clause-spaces c =
    four_rows c.row.ensures c.row-2.ensures c.row-3.ensures c.row-4.ensures
    c.put.ensures c.put-2.ensures c.put-3.ensures c.put-4.ensures

pub returns-clause-cases : goal.returns-clause-cases
returns-clause-cases c = proved_cases
