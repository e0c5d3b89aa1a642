-- The table of spaces that the board lends: sixteen bytes for each space.
use Rattle.std.specs.Prelude.{ℕ, zero, suc, ◌+◌, ◌*◌, ◌/◌, Bool, true, false, not, List, [], ◌∷◌, eqb, length, get_or}
use Rattle.buffer.specs.BigEndian.{number_of}
use Rattle.space_table.specs.declared.Space.{Space}

-- The byte at an index.
abbrev pub byte_at : List ℕ → ℕ → ℕ
byte_at table at = get_or table at 0

-- A flag: any byte but 0 is true.
abbrev pub flag_at : List ℕ → ℕ → Bool
flag_at table at = not (eqb (byte_at table at) 0)

-- A number of four bytes, least significant first.
abbrev pub number_at : List ℕ → ℕ → ℕ
number_at table at = number_of (byte_at table (at + 3)) (byte_at table (at + 2)) (byte_at table (at + 1)) (byte_at table at)

-- The space whose sixteen bytes are row i of a table.
unfoldable pub row_at : List ℕ → ℕ → Space
row_at table i = record {
  number = byte_at table (16 * i);
  read_only = flag_at table (16 * i + 1);
  in_flash = flag_at table (16 * i + 2);
  lowest = number_at table (16 * i + 4);
  highest = number_at table (16 * i + 8);
  offset = number_at table (16 * i + 12);
}

-- n spaces of a table, from space i on.
unfoldable pub spaces_from : List ℕ → ℕ → ℕ → List Space
spaces_from table i zero = []
spaces_from table i (suc n) = row_at table i ∷ spaces_from table (i + 1) n

-- All spaces of a table; bytes behind the last whole space are no space.
abbrev pub spaces_in : List ℕ → List Space
spaces_in table = spaces_from table 0 (length table / 16)

-- What stands for a space that a table has not: no address is in it, and B2 refuses it.
abbrev pub no_space : Space
no_space = record { number = 0; read_only = true; in_flash = false; lowest = 1; highest = 0; offset = 0 }

-- Space i of a table, counted from 0.
abbrev pub space_at : List ℕ → ℕ → Space
space_at table i = get_or (spaces_in table) i no_space
