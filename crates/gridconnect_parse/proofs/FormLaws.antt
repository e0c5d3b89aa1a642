-- A law of the form of a line: the length that it gives.
-- Assumes nothing.
use Prim.Native.Nat.{ℕ, ◌%◌, ◌≤◌}
use mathlib.Core.Path.{◌≡◌}
use mathlib.Core.Bool.{true}
use mathlib.Core.List.{List}
use lib.Dec.{leb}
use lib.ListN.{length}
use borrow.Author.Tests.{leb-true, eqb-true}
use Rattle.buffer.proofs.Choice.{and_left, and_right}
use Rattle.gridconnect_parse.specs.Form.{formed}

pub formed-length : (s : List ℕ) → formed s ≡ true → (12 ≤ length s) × (length s ≤ 28) × (length s % 2 ≡ 0)
unfolding formed
formed-length s e =
    let p = and_right (leb 12 (length s)) _ e in
    let q = and_right (leb (length s) 28) _ p in
    (leb-true 12 (length s) (and_left _ _ e), leb-true (length s) 28 (and_left _ _ p), eqb-true (length s % 2) 0 (and_left _ _ q))
