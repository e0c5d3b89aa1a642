-- `bujorelm_join` meets its contract.
-- Assumes nothing.
use Rattle.std.proofs.Common.{sym, ap, ◌∙◌}
use Rattle.rx_place_spec.specs.PlaceBytes.{state_in}
use Rattle.bujorelm_tool.specs.Joining.{joined_of}
use Rattle.bujorelm_tool.proofs.JoinedLaws.{outcome-stored}
use Rattle.bujorelm_tool.proofs.bujorelm_join.Goals as goal

pub returns-clause-ends : goal.returns-clause-ends
returns-clause-ends c =
    (outcome-stored (state_in c.args.places.now c.args.pool.now) _ c.join-outcome.ensures.ends c.put_outcome.ensures).0

pub returns-clause-lies : goal.returns-clause-lies
returns-clause-lies c =
    let s = outcome-stored (state_in c.args.places.now c.args.pool.now) _ c.join-outcome.ensures.ends c.put_outcome.ensures in
    rw s.1 c.join-outcome.ensures.lies

pub returns-clause-numbers : goal.returns-clause-numbers
returns-clause-numbers c =
    let s = outcome-stored (state_in c.args.places.now c.args.pool.now) _ c.join-outcome.ensures.ends c.put_outcome.ensures in
    c.put_outcome.ensures ∙ ap joined_of (sym s.1)
