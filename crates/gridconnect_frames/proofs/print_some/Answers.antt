-- `print_some` meets its contract. The invariant: the lines of the frames that are left, printed from here on, give the whole.
-- Assumes nothing.
use Prim.Native.Nat.{◌-◌, ◌*◌, ◌%◌, ◌^◌}
use mathlib.Core.Path.{◌≡◌, sym, ap, ◌∙◌}
use native.Mathlib.Omega.{arith}
use lib.ListN.{length}
use Rattle.buffer.proofs.Laws.{put_nil}
use Rattle.can_frame_bytes.proofs.LayoutLaws.{frame-whole}
use Rattle.gridconnect_frames.specs.Printing.{frames_from, frames_text}
use Rattle.gridconnect_frames.proofs.PrintingLaws.{print_none, print_next}
use Rattle.gridconnect_frames.proofs.print_some.Goals as goal

pub loop-i-preserved : goal.loop-i-preserved
loop-i-preserved c =
    let l = c.loop-i in
    let a = c.args in
    let start : l.i * 16 % 2 ^ 64 ≡ 16 * l.i = omega arith in
    let m = print_next a.frames.now l.out l.i a.n l.end (omega arith) (omega arith) (rw start at c.frame_at-frame.ensures ∙ frame-whole a.frames.now (16 * l.i) (omega arith)) c.print_frame-end.ensures l.invariant.2 l.invariant.3 in
    (m.0 ∙ l.invariant.0, omega arith, m.2, m.3)

pub returns : goal.returns
returns c =
    let a = c.args in
    let l = c.loop-i in
    let e = print_none a.frames.now l.out l.i a.n (omega arith) in
    let z : length (frames_text (frames_from a.frames.now (16 * l.i) (a.n - l.i))) ≡ 0 = ap length e in
    record { end = omega arith; out = sym (l.invariant.2 ∙ rw e (put_nil l.end l.out)) }
