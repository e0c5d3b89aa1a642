-- `put_together` meets its contract.
-- Assumes nothing.
use Rattle.std.proofs.Common.{rules, ap}
use Rattle.mask_combine.specs.Combining.{pair_in, mask_and_data}
use Rattle.mask_combine.proofs.ListLaws.{add_up}
use Rattle.mask_combine.proofs.PairLaws.{as_code}
use Rattle.mask_combine.proofs.put_together.Goals as goal

pub returns-clause-together : goal.returns-clause-together
returns-clause-together c =
    let a = c.args in
    ap mask_and_data (as_code (pair_in a.earlier.now) (pair_in a.later.now) (search rules))

pub returns-clause-adds_up : goal.returns-clause-adds_up
returns-clause-adds_up c = add_up
