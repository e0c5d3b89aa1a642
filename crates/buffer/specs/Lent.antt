-- What a caller lends to a function by a `&mut`: the contents before the call, and those that the caller finds after
-- it. What is lent by a `&` stays as it is: `given`.
use Rattle.std.specs.Prelude.{ℕ, List}
use Rattle.std.specs.Borrow.{Bor, MutBor}
use denote.Triple.Both.{Both}

abbrev pub before : {X Y : Type 0} → Both (MutBor X) Y → X
before x = x.entry.now

abbrev pub after : {X Y : Type 0} → Both X (MutBor Y) → Y
after x = x.exit.now

abbrev pub given : {X Y : Type 0} → Both (Bor X) Y → X
given x = x.entry.now

-- A slice or an array of bytes that the function may change.
abbrev pub LentBytes : Type 0
LentBytes = Both (MutBor (List ℕ)) (MutBor (List ℕ))

-- One that it only reads.
abbrev pub GivenBytes : Type 0
GivenBytes = Both (Bor (List ℕ)) (Bor (List ℕ))
