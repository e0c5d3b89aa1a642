use Rattle.std.proofs.Common.{ℕ, ◌≡◌, ◌≤◌, false, get_or}
use Rattle.mask_combine.specs.Combining.{untouched}
use Rattle.mask_diff_spec.specs.Differences.{difference, touches}
use Rattle.mask_diff.proofs.count_changes.Given as goal

abbrev pub invariant-loop-i : goal.invariant-loop-i
invariant-loop-i l = (k : ℕ) → l.i ≤ k → touches (get_or (difference l.old l.new) k untouched) ≡ false
