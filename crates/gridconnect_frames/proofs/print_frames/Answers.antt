-- `print_frames` meets its contract.
-- Assumes nothing.
use Prim.Native.Nat.{min}
use native.Mathlib.Omega.{arith}
use lib.ListN.{length}
use Rattle.gridconnect_frames.proofs.RoomLaws.{room_none, room_there}
use Rattle.gridconnect_frames.specs.Printing.{frames_from, frames_text}
use Rattle.gridconnect_frames.proofs.PrintingLaws.{some-short, no_room, with_room}
use Rattle.gridconnect_frames.proofs.print_frames.Goals as goal

pub returns-then-not-has_room : goal.returns-then-not-has_room
returns-then-not-has_room c =
    let a = c.args in
    no_room a.at (frames_text (frames_from a.frames.now 0 (min a.count 10))) a.out.now (room_none a.at (length a.out.now) c.has_room.ensures c.if-not-has_room.true)

pub returns : goal.returns
returns c =
    let a = c.args in
    let n = c.min in
    let p = c.print_some.ensures in
    let s = some-short a.frames.now 0 n.result in
    let h = room_there a.at (length a.out.now) c.has_room.ensures c.if-not-has_room.false in
    rw (← n.ensures) (with_room a.at (frames_text (frames_from a.frames.now 0 n.result)) a.out.now h (let m = n.ensures in omega arith) (p.end, p.out))
