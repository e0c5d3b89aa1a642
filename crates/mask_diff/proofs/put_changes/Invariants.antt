use Prim.Native.Nat.{◌*◌}
use mathlib.Core.Path.{◌≡◌}
use lib.ListN.{drop}
use lib.Seq.{sets}
use Rattle.tool_write_spec.specs.Writing.{pair_bytes}
use Rattle.mask_diff_spec.specs.Differences.{difference}
use Rattle.mask_diff.proofs.put_changes.Given as goal

abbrev pub invariant-loop-i : goal.invariant-loop-i
invariant-loop-i l = sets l.initial.pairs 0 (pair_bytes (difference l.old l.new)) ≡ sets l.pairs (2 * l.i) (pair_bytes (drop l.i (difference l.old l.new)))
