-- `rx_place::is_for` meets its contract.
-- Assumes nothing.
use mathlib.Core.Path.{sym, ◌∙◌}
use Rattle.rx_spec.specs.Reception.{is_for}
use Rattle.rx_place.proofs.is_for.Goals as goal

pub returns-then-is_held : goal.returns-then-is_held
unfolding is_for
returns-then-is_held c = simp (sym c.is_held.ensures ∙ c.if-is_held.true, sym c.source_at.ensures)

pub returns-else-is_held : goal.returns-else-is_held
unfolding is_for
returns-else-is_held c = rw (sym c.is_held.ensures ∙ c.if-is_held.false) c.if-is_held.false
