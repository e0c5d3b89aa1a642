-- `put_all` meets its contract. The invariant: the digits of the bytes before are put.
-- Assumes nothing.
use Prim.Native.Nat.{◌+◌}
use mathlib.Core.Path.{refl}
use native.Mathlib.Omega.{arith}
use Rattle.hex_print.proofs.PutLaws.{put_none, put_kept, put_byte}
use Rattle.hex_print.proofs.put_all.Goals as goal

pub loop-i-init : goal.loop-i-init
loop-i-init c = (refl, put_none c.args.bytes.now c.args.out.now c.args.at)

pub loop-i-preserved : goal.loop-i-preserved
loop-i-preserved c =
    let l = c.loop-i in
    let p = put_byte _ _ _ l.i l.invariant.1 (omega arith) (omega arith) c.put_pair.ensures in
    (put_kept _ _ _ (l.i + 1) p (omega arith) (omega arith), p)
