use Prim.Native.Nat.{◌+◌, ◌*◌}
use mathlib.Core.Path.{◌≡◌}
use lib.ListN.{length, drop}
use Rattle.hex_print.proofs.PutLaws.{Put}
use Rattle.hex_print.proofs.put_eights.Given as goal

abbrev pub invariant-loop-k : goal.invariant-loop-k
invariant-loop-k l = (length l.out ≡ length l.initial.out) × Put (drop l.from l.bytes) l.initial.out (l.at + l.from * 2) (l.k * 8) l.out
