use Prim.Native.Nat.{◌+◌, ◌-◌, ◌*◌, ◌≤◌}
use mathlib.Core.Path.{◌≡◌}
use lib.ListN.{length}
use Rattle.buffer.specs.Buffer.{put_at}
use Rattle.gridconnect_frames.specs.Printing.{frames_from, frames_text}
use Rattle.gridconnect_frames.proofs.print_some.Given as goal

abbrev pub invariant-loop-i : goal.invariant-loop-i
invariant-loop-i l =
    (length l.out ≡ length l.initial.out) × (l.end + 29 * (l.n - l.i) ≤ length l.initial.out)
    × (put_at l.at (frames_text (frames_from l.frames 0 l.n)) l.initial.out ≡ put_at l.end (frames_text (frames_from l.frames (16 * l.i) (l.n - l.i))) l.out)
    × (l.at + length (frames_text (frames_from l.frames 0 l.n)) ≡ l.end + length (frames_text (frames_from l.frames (16 * l.i) (l.n - l.i))))
