-- `put_number` meets its contract: the digits of the four bytes are the number's.
-- Assumes nothing.
use native.Mathlib.Omega.{arith}
use Rattle.buffer.specs.BigEndian.{bytes_of}
use Rattle.hex_print.proofs.DigitLaws.{four_bytes}
use Rattle.hex_print.proofs.PlaceLaws.{place-value}
use Rattle.hex_print.proofs.PutLaws.{no_room, room}
use Rattle.hex_print.proofs.put_number.Goals as goal

pub returns-then-size-at-clause-out_value : goal.returns-then-size-at-clause-out_value
returns-then-size-at-clause-out_value c = rw (← four_bytes c.args.x) (no_room (bytes_of c.args.x) _ _ (omega arith))

pub returns-then-size-at-clause-place_value : goal.returns-then-size-at-clause-place_value
returns-then-size-at-clause-place_value c = place-value 8 c.args.x (omega arith)

pub returns-clause-out_value : goal.returns-clause-out_value
returns-clause-out_value c =
    let e = c.put_all.ensures in
    rw (← four_bytes c.args.x) (room (bytes_of c.args.x) _ _ (omega arith) (rw c.bytes-bytes.ensures at e))

pub returns-clause-place_value : goal.returns-clause-place_value
returns-clause-place_value c = place-value 8 c.args.x (omega arith)
