use mathlib.Core.Path.{◌≡◌}
use mathlib.Core.List.{[]}
use lib.ListN.{drop}
use Rattle.call_error.specs.CallErrors.{space_numbers, spaces_check}
use Rattle.space_table.specs.Table.{spaces_from, spaces_in}
use Rattle.call_check.proofs.checks.check_each.Given as goal

abbrev pub invariant-loop-i : goal.invariant-loop-i
invariant-loop-i l = spaces_check l.flash_len l.memory_len [] (spaces_in l.table) ≡ spaces_check l.flash_len l.memory_len (space_numbers (spaces_from l.table 0 l.i)) (drop l.i (spaces_in l.table))
