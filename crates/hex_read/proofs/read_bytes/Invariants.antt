use Prim.Native.Nat.{◌+◌, ◌*◌, ◌-◌, ◌≤◌}
use mathlib.Core.Path.{◌≡◌}
use mathlib.Core.Bool.{true}
use lib.ListN.{length, drop, replicate}
use lib.Seq.{sets}
use Rattle.hex_print.specs.Digits.{all_digits}
use Rattle.hex_read.specs.Reading.{bytes_in}
use Rattle.hex_read.proofs.ReadLaws.{Passed}
use Rattle.hex_read.proofs.read_bytes.Given as goal

abbrev pub invariant-loop-i : goal.invariant-loop-i
invariant-loop-i l =
    (l.i ≡ l.n * 2)
    × (l.i ≤ length l.text)
    × Passed l.text l.i l.worst
    × (all_digits l.text ≡ true → sets l.bytes l.n (bytes_in (drop l.i l.text)) ≡ sets (replicate 8 0) 0 (bytes_in l.text))
    × (l.n + length (bytes_in (drop l.i l.text)) ≡ length (bytes_in l.text))

abbrev pub decreases-loop-i : goal.decreases-loop-i
decreases-loop-i l = length l.text - l.i
