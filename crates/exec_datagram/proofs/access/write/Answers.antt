-- `write` meets its contract.
-- Assumes nothing.
use mathlib.Core.Path.{sym, ◌∙◌}
use Rattle.space_reach.proofs.Laws.{writes-fit}
use Rattle.exec_store.proofs.Laws.{bytes-within}
use Rattle.exec_spec.proofs.AccessLaws.{write-fails, write-reaches}
use Rattle.exec_datagram.proofs.access.write.Goals as goal

pub returns-in-Err-clause-writes : goal.returns-in-Err-clause-writes
returns-in-Err-clause-writes c =
    let a = sym c.reach.ensures ∙ c.in-Err.is in
    write-fails _ _ _ _ _ _ a c.code_of.ensures c.failed_write.ensures

pub returns-in-Err-clause-fit : goal.returns-in-Err-clause-fit
returns-in-Err-clause-fit c = writes-fit

pub returns-in-Ok-clause-writes : goal.returns-in-Ok-clause-writes
returns-in-Ok-clause-writes c =
    let a = sym c.reach.ensures ∙ c.in-Ok.is in
    write-reaches _ _ _ _ _ _ (bytes-within _ _) a c.index_of-index.ensures c.put.ensures

pub returns-in-Ok-clause-fit : goal.returns-in-Ok-clause-fit
returns-in-Ok-clause-fit c = writes-fit
