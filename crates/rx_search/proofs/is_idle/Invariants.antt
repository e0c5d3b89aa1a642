-- The invariant of `rx_search::is_idle`: `held` has the bits of the first bytes of the first i places.
-- Assumes nothing.
use mathlib.Core.Path.{◌≡◌}
use Rattle.rx_search.proofs.IdleLaws.{ZeroTo}
use Rattle.rx_search.proofs.is_idle.Given as goal

abbrev pub invariant-loop-i : goal.invariant-loop-i
invariant-loop-i l = l.held ≡ 0 → ZeroTo l.i l.places
