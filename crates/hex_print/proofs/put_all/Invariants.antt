use mathlib.Core.Path.{◌≡◌}
use lib.ListN.{length}
use Rattle.hex_print.proofs.PutLaws.{Put}
use Rattle.hex_print.proofs.put_all.Given as goal

abbrev pub invariant-loop-i : goal.invariant-loop-i
invariant-loop-i l = (length l.out ≡ length l.initial.out) × Put l.bytes l.initial.out l.at l.i l.out
