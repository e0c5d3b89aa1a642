-- `test_and_set` meets its contract.
-- Assumes nothing.
use Rattle.std.proofs.Common.{◌≡◌, length, ◌∙◌, ap, arith}
use Rattle.buffer.proofs.Laws.{six-bytes}
use Rattle.exec_lock.specs.Lock.{lock_after}
use Rattle.exec_lock.proofs.Laws.{other_length, six-sent}
use Rattle.exec_lock.proofs.test_and_set.Goals as goal

pub returns-in-len6 : goal.returns-in-len6
returns-in-len6 c =
    let a = c.args in
    let six : length a.id.now ≡ 6 = omega arith in
    c.reserved.ensures ∙ ap (lock_after a.held) (six-bytes a.id.now six) ∙ six-sent a.held a.id.now six

pub returns-in_default : goal.returns-in_default
returns-in_default c = let a = c.args in other_length a.held a.id.now (λ e. omega arith)

pub returns-in_default-2 : goal.returns-in_default-2
returns-in_default-2 c = let a = c.args in other_length a.held a.id.now (λ e. omega arith)
