-- Laws of the room for an answer: what a test of it says of the numbers.
-- Assumes nothing.
use Prim.Native.Nat.{ℕ, ◌+◌, ◌≤◌, ◌<◌}
use mathlib.Core.Path.{◌≡◌, sym, ◌∙◌}
use mathlib.Core.Bool.{Bool, true, false}
use borrow.Author.Tests.{leb-true, leb-false}
use Rattle.gridconnect_frames.specs.Room.{has_room}

module _ (at size : ℕ) {r : Bool} (e : r ≡ has_room at size) where
  pub room_none : r ≡ false → size < at + 290
  room_none t = leb-false (at + 290) size (sym e ∙ t)

  pub room_there : r ≡ true → at + 290 ≤ size
  room_there t = leb-true (at + 290) size (sym e ∙ t)
