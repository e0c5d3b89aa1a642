-- The next masked write as numbers for a caller in C, in lent bytes.
use Rattle.std.specs.Prelude.{ℕ, Bool, true, false, cond, List, [], ◌∷◌, ◌++◌, eqb, Option, Some, None, Result, Ok, Err}
use Rattle.buffer.specs.LittleEndian.{least_first, eight_least_first, bool_byte, zeros, number_at, bool_at}
use Rattle.mask_diff.specs.declared.Change.{Change}
use Rattle.mask_diff.specs.declared.DiffError.{DiffError}
use Rattle.mask_diff.specs.declared.DiffError.TheVariants.{LengthsDiffer, BufferTooShort}

-- 24 bytes: refusal at 0, given at 4, start at 8, count at 16; least significant byte first, and zero where no field
-- lies.
abbrev pub change_bytes : ℕ → Bool → ℕ → ℕ → List ℕ
change_bytes refusal given start count =
    least_first refusal ++ (bool_byte given ∷ []) ++ zeros 3 ++ eight_least_first start ++ eight_least_first count

-- The number of each case, and its values. The refusals are numbered by themselves, and not by a paper.
abbrev pub numbers_of : Result (Option Change) DiffError → List ℕ
numbers_of (Err LengthsDiffer) = change_bytes 1 false 0 0
numbers_of (Err BufferTooShort) = change_bytes 2 false 0 0
numbers_of (Ok None) = change_bytes 0 false 0 0
numbers_of (Ok (Some c)) = change_bytes 0 true c.start c.count

-- The case that the bytes stand for: no change is not one at index 0.
abbrev pub change_is : List ℕ → Result (Option Change) DiffError
change_is bytes =
    cond (bool_at 4 bytes) (Ok (Some (record { start = number_at 8 8 bytes; count = number_at 16 8 bytes })))
    (cond (eqb (number_at 0 4 bytes) 1) (Err LengthsDiffer)
    (cond (eqb (number_at 0 4 bytes) 2) (Err BufferTooShort) (Ok None)))
