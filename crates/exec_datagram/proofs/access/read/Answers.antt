-- `read` meets its contract.
-- Assumes nothing.
use mathlib.Core.Path.{sym, ◌∙◌}
use Rattle.exec_spec.proofs.AccessLaws.{read-fails, read-reaches}
use Rattle.exec_datagram.proofs.access.read.Goals as goal

pub returns-in-Err : goal.returns-in-Err
returns-in-Err c =
    let a = sym c.reach.ensures ∙ c.in-Err.is in
    read-fails _ _ _ _ _ _ a c.code_of.ensures c.failed_read.ensures

pub returns-in-Ok : goal.returns-in-Ok
returns-in-Ok c =
    let a = sym c.reach.ensures ∙ c.in-Ok.is in
    read-reaches _ _ _ _ _ _ a c.bytes_in-bytes.ensures c.read.ensures
