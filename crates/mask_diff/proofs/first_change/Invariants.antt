use Rattle.std.proofs.Common.{◌≡◌}
use Rattle.mask_diff_spec.specs.Differences.{difference, start_from}
use Rattle.mask_diff.proofs.first_change.Given as goal

abbrev pub invariant-loop-i : goal.invariant-loop-i
invariant-loop-i l = start_from l.from (difference l.old l.new) ≡ start_from l.i (difference l.old l.new)
