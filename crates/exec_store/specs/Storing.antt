-- Document 01, "Commands": what a write and a masked write store, and which bytes that may change.
use Rattle.std.specs.Prelude.{ℕ, ◌+◌, ◌-◌, ◌≡◌, cond, List, [], ◌∷◌, ◌++◌, leb, length, take, drop}
use Rattle.std.specs.Int.Bits.{bit_and, bit_or}
use Rattle.buffer.specs.Buffer.{placed}
use Rattle.cmd_fields.specs.Commands.{Pair}

-- The bytes stored from an index on: all of them or none.
abbrev pub store_bytes : List ℕ → ℕ → List ℕ → List ℕ
store_bytes bytes index memory = placed index bytes memory

-- "mask bits at 1 are taken from data, the others kept"
abbrev pub mask_byte : ℕ → Pair → ℕ
mask_byte old p = bit_or (bit_and old (255 - p.mask)) (bit_and p.value p.mask)

-- The pairs stored from the first byte on.
unfoldable pub masked : List Pair → List ℕ → List ℕ
masked [] memory = memory
masked (p ∷ more) [] = []
masked (p ∷ more) (old ∷ memory) = mask_byte old p ∷ masked more memory

-- The pairs stored from an index on: all of them or none.
unfoldable pub store_masked : List Pair → ℕ → List ℕ → List ℕ
store_masked pairs index memory =
    cond (leb (index + length pairs) (length memory)) (take index memory ++ masked pairs (drop index memory)) memory

-- The bytes `new`, which were `old`, differ from them at most in n bytes from an index on.
pub record OnlyWithin (index n : ℕ) (old new : List ℕ) : Type 0 where
  pub size : length new ≡ length old
  pub before : take index new ≡ take index old
  pub behind : drop (index + n) new ≡ drop (index + n) old
