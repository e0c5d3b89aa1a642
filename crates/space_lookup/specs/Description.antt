-- Document 01, "The board description".
use Rattle.std.specs.Prelude.{ℕ, ◌+◌, ◌-◌, min, cond, List, [], ◌∷◌, eqb, ltb, take, drop}
use Rattle.space_table.specs.declared.Space.{Space}
use Rattle.space_lookup.specs.declared.Found.{Found}
use Rattle.space_lookup.specs.declared.Found.TheVariants.{Described, Empty, Unknown}

-- "lowest and highest address (32 bits, both included)": how many addresses that are
abbrev pub size_of : Space → ℕ
size_of s = s.highest + 1 - s.lowest

-- "Each space lies either in flash or in working memory": of two things, that of the space's store
abbrev pub store_of : {A : Type 0} → Space → A → A → A
store_of s flash memory = cond s.in_flash flash memory

-- "starting at its offset": the bytes of a space
abbrev pub window_of : List ℕ → List ℕ → Space → List ℕ
window_of flash memory s = take (size_of s) (drop s.offset (store_of s flash memory))

-- "0xFD, 0xFE and 0xFF are always known. One of them left out of the description is known and empty:
-- writable for 0xFD and 0xFE, read-only for 0xFF." Any other number that is not described is unknown.
abbrev pub left_out : ℕ → Found
left_out n = cond (ltb n 0xFD) Unknown (Empty (eqb n 0xFF))

-- What is known of the number n.
unfoldable pub find_space : List Space → ℕ → Found
find_space [] n = left_out n
find_space (s ∷ rest) n = cond (eqb s.number n) (Described s) (find_space rest n)

-- "the lowest number among the described spaces and 0xFD" (document 01, "Commands", 0x80)
unfoldable pub lowest_number : List Space → ℕ
lowest_number [] = 0xFD
lowest_number (s ∷ rest) = min s.number (lowest_number rest)
