-- `write_masked` meets its contract.
-- Assumes nothing.
use mathlib.Core.List.{List}
use Prim.Native.Nat.{ℕ, ◌/◌}
use lib.ListN.{length}
use Rattle.cmd_fields.specs.Commands.{pairs_of}
use Rattle.cmd_fields.proofs.Laws.{pairs-length}
use mathlib.Core.Path.{sym, ◌∙◌}
use Rattle.exec_store.specs.Storing.{store_masked, OnlyWithin}
use Rattle.exec_store.proofs.Laws.{pairs-within}
use Rattle.exec_spec.proofs.AccessLaws.{write-fails, write-reaches}
use Rattle.exec_datagram.proofs.access.write_masked.Goals as goal

within : (pairs memory : List ℕ) (index : ℕ) →
    OnlyWithin index (length pairs / 2) memory (store_masked (pairs_of pairs) index memory)
within pairs memory = rw (pairs-length pairs) at (pairs-within (pairs_of pairs) memory)

pub returns-in-Err : goal.returns-in-Err
returns-in-Err c =
    let a = sym c.reach.ensures ∙ c.in-Err.is in
    rw (pairs-length _) (write-fails _ _ _ _ _ _ a c.code_of.ensures c.failed_write.ensures)

pub returns-in-Ok : goal.returns-in-Ok
returns-in-Ok c =
    let a = sym c.reach.ensures ∙ c.in-Ok.is in
    rw (pairs-length _) (write-reaches _ _ _ _ _ _ (within _ _) a c.index_of-index.ensures c.put_masked.ensures)
