-- C-16 of document 02, for a tool: the next masked write out of those that take an old image of memory to a new one and
-- touch no bit that is the same in both.
use Rattle.std.specs.Prelude.{ℕ, suc, ◌+◌, Bool, cond, not, ◌||◌, List, [], ◌∷◌, leb, ltb, eqb, length, take, drop}
use Rattle.std.specs.Int.Bits.{bit_and, bit_xor}
use Rattle.cmd_fields.specs.Commands.{Pair, pair}

-- ---- the bits that differ

-- The mask has the bits that differ at 1, and the data are what they are in the new byte.
abbrev pub change_of : ℕ → ℕ → Pair
change_of old new = pair (bit_xor old new) (bit_and new (bit_xor old new))

-- of two images
unfoldable pub difference : List ℕ → List ℕ → List Pair
difference [] new = []
difference (o ∷ old) [] = []
difference (o ∷ old) (n ∷ new) = change_of o n ∷ difference old new

-- ---- a masked write of them

-- Whether a pair touches a bit at all.
abbrev pub touches : Pair → Bool
touches p = not (eqb p.mask 0)

-- How many pairs stand before the first that touches a bit: all, where none does.
unfoldable pub before_first : List Pair → ℕ
before_first [] = 0
before_first (p ∷ more) = cond (touches p) 0 (suc (before_first more))

-- How many pairs there are up to the last that touches a bit, that one included: 0, where none does.
unfoldable pub up_to_last : List Pair → ℕ
up_to_last [] = 0
up_to_last (p ∷ more) = cond (touches p || ltb 0 (up_to_last more)) (suc (up_to_last more)) 0

-- The next masked write at or after an index starts at the first byte that it touches,
abbrev pub start_from : ℕ → List Pair → ℕ
start_from from e = from + before_first (drop from e)

-- and ends with the last that it touches among "1–32 pairs".
abbrev pub count_at : ℕ → List Pair → ℕ
count_at start e = up_to_last (take 32 (drop start e))

abbrev pub pairs_at : ℕ → List Pair → List Pair
pairs_at start e = take (count_at start e) (drop start e)

-- ---- the refusals, and what is found

-- C-16 names no refusal, and no number of the papers is given here: both are this search's own.
pub data Search : Type 0 where
  -- the images differ in length
  lengths_differ : Search
  -- the buffer for the pairs has no room for 32 of them
  buffer_too_short : Search
  -- no byte differs at or after the index
  unchanged : Search
  -- a masked write, from an index of the images on
  change : ℕ → List Pair → Search

abbrev pub found_change : ℕ → List Pair → Search
found_change start e = cond (ltb start (length e)) (change start (pairs_at start e)) unchanged

-- Images of different length are refused first, and then a buffer of fewer than 64 bytes, which 32 pairs take.
unfoldable pub next_change : List ℕ → List ℕ → ℕ → ℕ → Search
next_change old new from room =
    cond (eqb (length old) (length new)) (cond (leb 64 room) (found_change (start_from from (difference old new)) (difference old new)) buffer_too_short) lengths_differ
