-- Document 01, "Refused because of the state": what a read or a write reaches, or its failure.
use Rattle.std.specs.Prelude.{ℕ, ◌+◌, ◌-◌, ◌≤◌, ◌≡◌, Bool, true, cond, ◌&&◌, Result, Ok, Err, List, leb}
use Rattle.space_lookup.specs.Description.{find_space}
use Rattle.call_error.specs.CallErrors.{description_check}
use Rattle.space_table.specs.declared.Space.{Space}
use Rattle.space_lookup.specs.declared.Found.{Found}
use Rattle.space_lookup.specs.declared.Found.TheVariants.{Described, Empty, Unknown}
use Rattle.space_reach.specs.declared.Failure.{Failure}
use Rattle.space_reach.specs.declared.Failure.TheVariants.{UnknownSpace, OutOfBounds, ReadOnlySpace}

-- Document 01, "In a failure reply": "0x1081 space neither described nor 0xFD–0xFF", "0x1082 address outside, or space
-- empty", "0x1083 write to a read-only space".
abbrev pub code_of : Failure → ℕ
code_of UnknownSpace = 0x1081
code_of OutOfBounds = 0x1082
code_of ReadOnlySpace = 0x1083

-- The space that is reached, or why none is.
abbrev pub ReachResult : Type 0
ReachResult = Result Space Failure

-- Whether all of the n addresses from the address on are in the space.
abbrev pub inside : Space → ℕ → ℕ → Bool
inside s address n = leb s.lowest address && leb (address + n) (s.highest + 1)

-- "in this order: 0x1081 space neither described nor 0xFD–0xFF; 0x1083 write to a read-only space;
-- 0x1082 address outside, or space empty"
abbrev pub access : Bool → Found → ℕ → ℕ → ReachResult
access writes Unknown address n = Err UnknownSpace
access writes (Empty read_only) address n = cond (writes && read_only) (Err ReadOnlySpace) (Err OutOfBounds)
access writes (Described s) address n =
    cond (writes && s.read_only) (Err ReadOnlySpace) (cond (inside s address n) (Ok s) (Err OutOfBounds))

-- Where a byte of a space stands in its store.
abbrev pub index_of : Space → ℕ → ℕ
index_of s address = s.offset + (address - s.lowest)

-- Where the description has no error, a write that reaches a space has room in memory: it is stored whole,
-- and not left out.
abbrev pub WritesFit : Type 0
WritesFit =
    (alias : ℕ) (spaces : List Space) (flash memory number address n : ℕ) (s : Space) → description_check alias spaces flash memory ≡ Ok tt
    → access true (find_space spaces number) address n ≡ Ok s → index_of s address + n ≤ memory
