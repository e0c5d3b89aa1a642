-- `put_byte` meets its contract.
-- Assumes nothing.
use mathlib.Core.List.{[], ◌∷◌}
use native.Mathlib.Omega.{arith}
use Rattle.buffer.proofs.Laws.{placed-sets}
use Rattle.gridconnect_print.proofs.put_byte.Goals as goal

pub returns : goal.returns
returns c = let a = c.args in placed-sets a.at (a.a ∷ []) a.out.now (omega arith)
