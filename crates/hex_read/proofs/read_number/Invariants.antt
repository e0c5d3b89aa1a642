use Prim.Native.Nat.{◌^◌, ◌<◌}
use mathlib.Core.Path.{◌≡◌}
use mathlib.Core.Bool.{true}
use lib.ListN.{drop}
use Rattle.hex_print.specs.Digits.{all_digits, number_in}
use Rattle.hex_read.proofs.ReadLaws.{Passed, behind}
use Rattle.hex_read.proofs.read_number.Given as goal

abbrev pub invariant-loop-i : goal.invariant-loop-i
invariant-loop-i l =
    (l.value < 16 ^ l.i) × Passed l.text l.i l.worst × (all_digits l.text ≡ true → behind l.value (drop l.i l.text) ≡ number_in l.text)
