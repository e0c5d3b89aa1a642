-- The bytes passed, and those of the rest before its newline, are all before the first newline.
use Prim.Native.Nat.{◌+◌, ◌≤◌}
use mathlib.Core.Path.{◌≡◌}
use lib.ListN.{length, drop}
use Rattle.gridconnect_input.specs.Newline.{until_newline}
use Rattle.gridconnect_input.proofs.newline_in.Given as goal

abbrev pub invariant-loop-i : goal.invariant-loop-i
invariant-loop-i l = (l.i ≤ length l.bytes) × (l.i + length (until_newline (drop l.i l.bytes)) ≡ length (until_newline l.bytes))
