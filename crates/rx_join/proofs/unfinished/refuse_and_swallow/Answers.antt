-- `rx_join::unfinished::refuse_and_swallow` meets its contract.
-- Assumes nothing.
use mathlib.Core.Bool.{true}
use borrow.Author.Rules.{rules}
use Rattle.rx_join_spec.proofs.JoinLaws.{refuse-and-swallow_done}
use Rattle.rx_join.proofs.unfinished.refuse_and_swallow.Goals as goal

pub returns : goal.returns
returns c pool d at =
    let e = c in
    let a = e.args in
    refuse-and-swallow_done a.i a.source d at pool a.places.now true a.refusal c.tick_at-tick.result _ e.requires c.tick_at-tick.ensures
    (record { inside = e.requires.inside; size = search rules; bytes = c.swallow.ensures })
