-- `rx_search::is_idle` meets its contract.
-- Assumes nothing.
use native.Mathlib.Omega.{arith}
use borrow.Author.Tests.{eqb-true}
use Rattle.rx_search.proofs.IdleLaws.{zero_next, all-free}
use Rattle.rx_search.proofs.is_idle.Goals as goal

pub loop-i-preserved : goal.loop-i-preserved
loop-i-preserved c = zero_next c.args.places.now c.loop-i.i c.loop-i.held c.loop-i.invariant

pub returns : goal.returns
returns c e = all-free c.args.places.now (λ k h. c.loop-i.invariant (eqb-true _ 0 e) k (omega arith))
