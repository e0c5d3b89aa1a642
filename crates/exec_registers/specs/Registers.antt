-- What a datagram may change besides memory, and how it lies in the lent block:
--   bytes 0 to 5  the lock memory
-- A field more is a line more in each of the lists below, and bytes more in the block.
use Rattle.std.specs.Prelude.{ℕ, ◌≡◌, List, length, take, drop, replicate}

pub record Registers : Type 0 where
  -- "The lock memory is six bytes": the ID that holds the lock, zero where none does.
  pub lock : List ℕ

-- The size of the block.
abbrev pub registers_size : ℕ
registers_size = 6

-- The registers that the bytes of the block stand for.
unfoldable pub registers_in : List ℕ → Registers
registers_in bytes =
    record {
      lock = take 6 (drop 0 bytes);
    }

-- "zero at start"
abbrev pub registers_at_start : Registers
registers_at_start =
    record {
      lock = replicate 6 0;
    }

-- The registers with another lock memory, and every other field as it was.
abbrev pub with_lock : List ℕ → Registers → Registers
with_lock lock r =
    record {
      lock = lock;
    }

-- The registers tell every byte of the block: two blocks that stand for the same registers are the same.
abbrev pub BytesTold : Type 0
BytesTold =
    (a b : List ℕ) → length a ≡ registers_size → length b ≡ registers_size → registers_in a ≡ registers_in b → a ≡ b
