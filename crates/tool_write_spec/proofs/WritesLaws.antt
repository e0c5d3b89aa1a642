-- Laws of bytes that are pairs, which a masked write is written of.
-- Assumes nothing.
use Prim.Native.Nat.{ℕ, ◌%◌}
use mathlib.Core.Path.{◌≡◌, refl, sym, ap}
use mathlib.Core.Bool.{Bool, true, false, ◌&&◌}
use mathlib.Core.List.{List, ◌++◌}
use native.Mathlib.Omega.{arith}
use lib.Dec.{eqb}
use lib.ListN.{length}
use borrow.Author.Tests.{eq-eqb, eqb-true}
use Rattle.buffer.proofs.Choice.{and_left, and_right}
use Rattle.cmd_limits.specs.Limits.{pairs_fit}
use Rattle.cmd_fields.specs.Commands.{write_masked, pairs_of, within}
use Rattle.cmd_fields.proofs.Laws.{is_within, pairs-length}
use Rattle.tool_write_spec.specs.Writing.{opening, command_for}
use Rattle.tool_write_spec.proofs.WritingLaws.{bounds, pairs-bounds, bytes_back}

same : (s t : Bool) → (s ≡ true → t ≡ true) → (t ≡ true → s ≡ true) → s ≡ t
same true t f g = sym (f refl)
same false true f g = g refl
same false false f g = refl

-- so many bytes are the pairs of a masked write, if each mask has its data and the pairs are in range
pub pairs-range : (bytes : List ℕ) → pairs_fit (length bytes) ≡ (eqb (length bytes % 2) 0 && within 1 32 (length (pairs_of bytes)))
pairs-range bytes =
    let n = pairs-length bytes in
    same (pairs_fit (length bytes)) (eqb (length bytes % 2) 0 && within 1 32 (length (pairs_of bytes)))
    (λ e.
    let b = pairs-bounds (length bytes) e in
    rw (eq-eqb (length bytes % 2) 0 b.2, is_within 1 32 (length (pairs_of bytes)) (omega arith) (omega arith)))
    (λ e.
    let z = eqb-true (length bytes % 2) 0 (and_left (eqb (length bytes % 2) 0) (within 1 32 (length (pairs_of bytes))) e) in
    let b = bounds 1 32 (length (pairs_of bytes)) (and_right (eqb (length bytes % 2) 0) (within 1 32 (length (pairs_of bytes))) e) in
    rw (is_within 1 64 (length bytes) (omega arith) (omega arith), eq-eqb (length bytes % 2) 0 z))

pub masked-command : (s a : ℕ) (bytes : List ℕ) → pairs_fit (length bytes) ≡ true → opening 0x08 s a ++ bytes ≡ command_for (write_masked s a (pairs_of bytes))
unfolding command_for
masked-command s a bytes e = ap (λ (bytes : List ℕ). opening 0x08 s a ++ bytes) (sym (bytes_back bytes (pairs-bounds (length bytes) e).2))
