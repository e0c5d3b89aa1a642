-- `rx_timeout::is_due` meets its contract.
-- Assumes nothing.
use Rattle.std.proofs.Common.{sym, ◌∙◌}
use Rattle.rx_place_spec.specs.Ticks.{is_due}
use Rattle.rx_timeout.proofs.is_due.Goals as goal

pub returns-then-is_held : goal.returns-then-is_held
unfolding is_due
returns-then-is_held c = rw (sym c.is_held.ensures ∙ c.if-is_held.true, ← c.tick_at.ensures, ← c.age_of.ensures)

pub returns-else-is_held : goal.returns-else-is_held
unfolding is_due
returns-else-is_held c = rw (sym c.is_held.ensures ∙ c.if-is_held.false) c.if-is_held.false
