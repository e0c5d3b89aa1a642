-- Document 01, "Refused because of the input", and C-11 of document 02: the errors of a caller that lie in the
-- description, B11 to B14 and B2 to B5, each in its place. Document 01 calls them house numbers, "returned to the
-- caller and never sent".
use Rattle.std.specs.Prelude.{ℕ, ◌+◌, Bool, true, false, cond, not, ◌&&◌, ◌||◌, List, [], ◌∷◌, ◌++◌, eqb, ltb, length, Option, Some, None, Result, Ok, Err}
use Rattle.space_table.specs.declared.Space.{Space}
use Rattle.call_error.specs.declared.CallError.{CallError}
use Rattle.call_error.specs.declared.CallError.TheVariants.{B11TooManySpaces, B12MemoryTooLarge, B13FlashTooLarge, B14AliasOutOfRange, B2LowestAboveHighest, B3WindowPastEnd, B4MustBeReadOnly, B5NumberUsedTwice, B6ReplyBufferTooShort, B7BadReceptionState}
use Rattle.space_lookup.specs.Description.{size_of, store_of}

-- ---- an error as the papers give it

-- Its number, and the position of the space that it refuses.
pub record Refusal : Type 0 where
  pub number : ℕ
  pub position : Option ℕ

abbrev pub refusal : ℕ → Option ℕ → Refusal
refusal number position = record { number = number; position = position }

-- "B11 to B14, in that order, replace B1"; "B2 to B5 also return the space's position, counted from 0", and the others
-- have none.
abbrev pub refusal_of : CallError → Refusal
refusal_of B11TooManySpaces = refusal 11 None
refusal_of B12MemoryTooLarge = refusal 12 None
refusal_of B13FlashTooLarge = refusal 13 None
refusal_of B14AliasOutOfRange = refusal 14 None
refusal_of (B2LowestAboveHighest position) = refusal 2 (Some position)
refusal_of (B3WindowPastEnd position) = refusal 3 (Some position)
refusal_of (B4MustBeReadOnly position) = refusal 4 (Some position)
refusal_of (B5NumberUsedTwice position) = refusal 5 (Some position)
refusal_of B6ReplyBufferTooShort = refusal 6 None
refusal_of B7BadReceptionState = refusal 7 None

-- ---- checks

-- What comes of a call: an error of the caller, or what the call is for.
abbrev pub OrError : Type 0 → Type 0
OrError A = Result A CallError

-- What a check finds: nothing, or the first error that applies.
abbrev pub Checked : Type 0
Checked = OrError (Unit {0})

abbrev pub passes : Checked → Bool
passes (Ok u) = true
passes (Err error) = false

-- The first of two checks that fails: the second counts only where the first passes.
abbrev pub or_else : Checked → Checked → Checked
or_else a b = cond (passes a) b a

-- What a call comes to: the error that a check found refuses it.
abbrev pub unless_failed : {A : Type 0} → Checked → (CallError → A) → A → A
unless_failed (Ok u) refused done = done
unless_failed (Err error) refused done = refused error

-- ---- the description

unfoldable pub among : ℕ → List ℕ → Bool
among n [] = false
among n (m ∷ rest) = eqb m n || among n rest

-- The numbers of spaces, in their order.
unfoldable pub space_numbers : List Space → List ℕ
space_numbers [] = []
space_numbers (s ∷ rest) = s.number ∷ space_numbers rest

-- "B2 lowest above highest; B3 window past the end of its memory or flash; B4 writable in flash, or 0xFF writable", of
-- the space at a position.
abbrev pub window_check : ℕ → ℕ → ℕ → Space → Checked
window_check flash memory position s =
    cond (ltb s.highest s.lowest) (Err (B2LowestAboveHighest position))
    (cond (ltb (store_of s flash memory) (s.offset + size_of s)) (Err (B3WindowPastEnd position))
    (cond (not s.read_only && (s.in_flash || eqb s.number 0xFF)) (Err (B4MustBeReadOnly position))
    (Ok tt)))

-- and then "B5 number used by an earlier space". The position, "counted from 0", is the number of earlier spaces.
abbrev pub space_check : ℕ → ℕ → List ℕ → Space → Checked
space_check flash memory earlier s =
    or_else (window_check flash memory (length earlier) s)
    (cond (among s.number earlier) (Err (B5NumberUsedTwice (length earlier))) (Ok tt))

-- "Then each space in order": the spaces behind those with the numbers `earlier`.
unfoldable pub spaces_check : ℕ → ℕ → List ℕ → List Space → Checked
spaces_check flash memory earlier [] = Ok tt
spaces_check flash memory earlier (s ∷ rest) =
    or_else (space_check flash memory earlier s) (spaces_check flash memory (earlier ++ (s.number ∷ [])) rest)

-- "B1 is to be split: spaces, memory, flash, alias. .. B11 to B14, in that order": "over 16 spaces, memory or flash
-- over 65,536 bytes, or alias not 1–4,095".
abbrev pub limits_check : ℕ → ℕ → ℕ → ℕ → Checked
limits_check alias spaces flash memory =
    cond (ltb 16 spaces) (Err B11TooManySpaces)
    (cond (ltb 65536 memory) (Err B12MemoryTooLarge)
    (cond (ltb 65536 flash) (Err B13FlashTooLarge)
    (cond (eqb alias 0 || ltb 4095 alias) (Err B14AliasOutOfRange) (Ok tt))))

-- The first of B11 to B14 and B2 to B5 that applies, by the sizes of flash and memory.
unfoldable pub description_check : ℕ → List Space → ℕ → ℕ → Checked
description_check alias spaces flash memory =
    or_else (limits_check alias (length spaces) flash memory) (spaces_check flash memory [] spaces)
