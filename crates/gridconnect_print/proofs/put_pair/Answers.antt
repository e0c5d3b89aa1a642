-- `put_pair` meets its contract.
-- Assumes nothing.
use mathlib.Core.List.{[], ◌∷◌}
use native.Mathlib.Numerals.{add-one}
use native.Mathlib.Omega.{arith}
use Rattle.buffer.proofs.Laws.{placed-sets}
use Rattle.gridconnect_print.proofs.put_pair.Goals as goal

pub returns : goal.returns
returns c = let a = c.args in rw (add-one a.at) (placed-sets a.at (a.a ∷ a.b ∷ []) a.out.now (omega arith))
