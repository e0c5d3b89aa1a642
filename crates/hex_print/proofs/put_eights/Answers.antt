-- `put_eights` meets its contract. The invariant: from the start on a multiple of eight bytes is put.
-- Assumes nothing.
use Prim.Native.Nat.{◌+◌, ◌*◌, ◌%◌, ◌^◌}
use mathlib.Core.Path.{◌≡◌, refl}
use native.Mathlib.Omega.{arith}
use lib.ListN.{drop, length-drop}
use Rattle.hex_print.proofs.PutLaws.{put_none, put_kept, put_turn}
use Rattle.hex_print.proofs.put_eights.Goals as goal

pub loop-k-init : goal.loop-k-init
loop-k-init c = (refl, put_none (drop c.args.from c.args.bytes.now) c.args.out.now (c.args.at + c.args.from * 2))

pub loop-k-preserved : goal.loop-k-preserved
loop-k-preserved c =
    let a = c.args in
    let l = c.loop-k in
    let s = a.bytes.now in
    let r = length-drop a.from s in
    let i : a.from + l.k * 8 % 2 ^ 64 ≡ a.from + l.k * 8 = omega arith in
    let p = put_turn s a.out.now a.at a.from l.k l.invariant.1 (omega arith) (omega arith) (rw i at c.put_all.ensures) in
    (put_kept (drop a.from s) a.out.now (a.at + a.from * 2) ((l.k + 1) * 8) p (omega arith) (omega arith), p)
