-- `node_call::handle_tick` meets its contract.
-- Assumes nothing.
use mathlib.Core.Path.{sym, ◌∙◌}
use Rattle.node_call.proofs.TickLaws.{tick-refused, tick-heard}
use Rattle.node_call.proofs.handle_tick.Goals as goal

pub returns-then-not-are_sound : goal.returns-then-not-are_sound
returns-then-not-are_sound c pool w =
    let a = c.args in
    tick-refused a.tick a.places.now pool w (sym c.are_sound.ensures ∙ c.if-not-are_sound.true)

pub returns : goal.returns
returns c pool w =
    let a = c.args in
    let d = c.drop_due.ensures in
    tick-heard a.tick a.places.now pool w (sym c.are_sound.ensures ∙ c.if-not-are_sound.false) d.places d.renewal
