-- `put_digits` meets its contract.
-- Assumes nothing.
use native.Mathlib.Omega.{arith}
use Rattle.hex_print.proofs.PutLaws.{no_room, room}
use Rattle.hex_print.proofs.put_digits.Goals as goal

pub returns-then-size-at : goal.returns-then-size-at
returns-then-size-at c = elim c.then-size-at.branch [
  | goal.then-size-at-via-then-size-at w ↦ no_room _ _ _ (omega arith)
  | goal.then-size-at-via-else-size-at+then-size-at-2 w ↦ no_room _ _ _ (omega arith)
  | goal.then-size-at-via-else-size-at+else-size-at-2+then-size-at-3 w ↦ no_room _ _ _ (omega arith)
]

pub returns : goal.returns
returns c = room _ _ _ (omega arith) c.put_parts.ensures
