use mathlib.Core.Path.{◌≡◌}
use Prim.Native.Nat.{◌≤◌, ◌-◌}
use Rattle.call_error.specs.CallErrors.{among, space_numbers}
use Rattle.space_table.specs.Table.{spaces_from}
use Rattle.call_check.proofs.checks.is_used.Given as goal

abbrev pub invariant-loop-row : goal.invariant-loop-row
invariant-loop-row l = (l.row ≤ l.count) × (among l.number (space_numbers (spaces_from l.table 0 l.count)) ≡ among l.number (space_numbers (spaces_from l.table l.row (l.count - l.row))))

abbrev pub decreases-loop-row : goal.decreases-loop-row
decreases-loop-row l = l.count - l.row
