-- `put_lock` meets its contract.
-- Assumes nothing.
use Rattle.std.proofs.Common.{rules, arith, ◌≡◌, ◌∙◌, ap, length}
use Rattle.buffer.proofs.Laws.{placed-fits}
use Rattle.exec_registers.specs.Registers.{registers_in}
use Rattle.exec_registers.proofs.Laws.{lock-put, bytes-told}
use Rattle.exec_registers.proofs.put_lock.Goals as goal

-- the lock memory fits in the block
put : goal.returns-clause-bytes
put c = let six : length c.args.lock ≡ 6 = search rules in c.put.ensures ∙ placed-fits 0 c.args.lock c.args.registers.now (omega arith)

pub returns-clause-fields : goal.returns-clause-fields
returns-clause-fields c = let six : length c.args.lock ≡ 6 = search rules in ap registers_in (put c) ∙ lock-put c.args.lock c.args.registers.now six

pub returns-clause-bytes : goal.returns-clause-bytes
returns-clause-bytes c = put c

pub returns-clause-told : goal.returns-clause-told
returns-clause-told c = bytes-told
