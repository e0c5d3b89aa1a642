-- `tx_cut::cut::cut_whole` meets its contract.
-- Assumes nothing.
use Prim.Native.Nat.{◌+◌, ◌-◌, ◌/◌, ◌%◌}
use mathlib.Core.Path.{◌≡◌}
use native.Mathlib.Nat.{le_of_eq}
use native.Mathlib.Omega.{arith}
use lib.ListN.{length, take, drop}
use lib.Seq.{length-take-le}
use borrow.Author.Rules.{rules}
use Rattle.can_frame.specs.Frame.{header_of}
use Rattle.tx_cut_spec.specs.Cutting.{rest_frames, frames_of}
use Rattle.tx_cut_spec.proofs.CutLaws.{frames-single, frames-several}
use Rattle.tx_cut.proofs.FrameLaws.{frame-ends, frame-goes_on}
use Rattle.tx_cut.proofs.cut.cut_whole.Goals as goal

pub returns-then-datagram-le8 : goal.returns-then-datagram-le8
returns-then-datagram-le8 c =
    let a = c.args in
    let d = a.aliases / 4096 in
    let s = a.aliases % 4096 in
    let xs = a.datagram.now in
    let put = c.put_fragment.ensures in
    let made = frame-ends a.n (frames_of d s xs) a.frames.now (omega arith) (header_of 0x1A d s) xs (frames-single d s xs (omega arith)) (omega arith) (put.next, put.bytes) in
    record { count = made.0; bytes = made.1 }

pub cut_rest-requires : goal.cut_rest-requires
cut_rest-requires c =
    let a = c.args in
    let xs = a.datagram.now in
    let next = c.put_fragment-next.ensures.next in
    let m : length (frames_of (a.aliases / 4096) (a.aliases % 4096) xs) ≡ 1 + length (rest_frames (a.aliases / 4096) (a.aliases % 4096) (take (length xs - 8) (drop 8 xs)))
    = rw (frames-several (a.aliases / 4096) (a.aliases % 4096) xs (omega arith)) (omega arith) in
    search rules

pub returns : goal.returns
returns c =
    let a = c.args in
    let d = a.aliases / 4096 in
    let s = a.aliases % 4096 in
    let xs = a.datagram.now in
    let put = c.put_fragment-next.ensures in
    let rest = c.cut_rest.ensures in
    let made = frame-goes_on a.n (frames_of d s xs) a.frames.now (omega arith) (header_of 0x1B d s) (take 8 xs) (rest_frames d s (take (length xs - 8) (drop 8 xs))) (frames-several d s xs (omega arith))
    (le_of_eq (length-take-le 8 xs (omega arith))) (put.next, put.bytes) (rest.count, rest.bytes) in
    record { count = made.0; bytes = made.1 }
