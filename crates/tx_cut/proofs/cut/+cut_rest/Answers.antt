-- `tx_cut::cut::cut_rest` meets its contract.
-- Assumes nothing.
use Prim.Native.Nat.{◌+◌, ◌-◌, ◌/◌, ◌%◌}
use mathlib.Core.Path.{◌≡◌, ap, ◌∙◌}
use native.Mathlib.Omega.{arith}
use native.Mathlib.Nat.{le_of_eq}
use lib.ListN.{length, take, drop, length-drop}
use lib.Seq.{length-take-le}
use borrow.Author.Rules.{rules}
use Rattle.can_frame.specs.Frame.{header_of}
use Rattle.tx_cut_spec.specs.Cutting.{rest_frames}
use Rattle.tx_cut_spec.proofs.CutLaws.{rest-last, rest-several, behind-eight}
use Rattle.tx_cut.proofs.FrameLaws.{frame-ends, frame-goes_on}
use Rattle.tx_cut.proofs.cut.+cut_rest.Goals as goal

pub returns-then-rest-le8 : goal.returns-then-rest-le8
returns-then-rest-le8 t c =
    let a = c.args in
    let d = a.aliases / 4096 in
    let s = a.aliases % 4096 in
    let xs = a.rest.now in
    let put = c.put_fragment.ensures in
    let made = frame-ends a.n (rest_frames d s xs) a.frames.now (omega arith) (header_of 0x1D d s) xs (rest-last d s xs (omega arith)) (omega arith) (put.next, put.bytes) in
    record { count = made.0; bytes = made.1 }

pub cut_rest-requires : goal.cut_rest-requires
cut_rest-requires t c =
    let a = c.args in
    let xs = a.rest.now in
    let next = c.put_fragment-next.ensures.next in
    let l : length (take (length xs - 8) (drop 8 xs)) ≡ length xs - 8 = ap length (behind-eight xs) ∙ length-drop 8 xs in
    let m : length (rest_frames (a.aliases / 4096) (a.aliases % 4096) xs) ≡ 1 + length (rest_frames (a.aliases / 4096) (a.aliases % 4096) (take (length xs - 8) (drop 8 xs)))
    = rw (rest-several (a.aliases / 4096) (a.aliases % 4096) xs (omega arith)) (omega arith) in
    search rules

pub returns : goal.returns
returns t c =
    let a = c.args in
    let d = a.aliases / 4096 in
    let s = a.aliases % 4096 in
    let xs = a.rest.now in
    let put = c.put_fragment-next.ensures in
    let rest = c.cut_rest.ensures in
    let made = frame-goes_on a.n (rest_frames d s xs) a.frames.now (omega arith) (header_of 0x1C d s) (take 8 xs) (rest_frames d s (take (length xs - 8) (drop 8 xs))) (rest-several d s xs (omega arith))
    (le_of_eq (length-take-le 8 xs (omega arith))) (put.next, put.bytes) (rest.count, rest.bytes) in
    record { count = made.0; bytes = made.1 }
