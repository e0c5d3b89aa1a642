-- C-11 of document 02: what the position of a refused space says, apart from the search that finds it.
use Rattle.std.specs.Prelude.{ℕ, ◌≤◌, ◌<◌, List, ◌≡◌, length, take, get_or, Some, Ok, Err}
use Rattle.space_table.specs.Table.{no_space}
use Rattle.space_table.specs.declared.Space.{Space}
use Rattle.call_error.specs.CallErrors.{refusal_of, space_numbers, space_check, description_check, Checked}
use Rattle.call_error.specs.declared.CallError.{CallError}

-- The space at position i is refused with an error: there is such a space, among 16 at most; the i spaces before it,
-- with the same flash, memory and alias, are a description without an error; and it is refused with that error behind
-- them.
pub record RefusedAt (alias flash memory : ℕ) (spaces : List Space) (i : ℕ) (error : CallError) : Type 0 where
  pub few : length spaces ≤ 16
  pub inside : i < length spaces
  pub before : description_check alias (take i spaces) flash memory ≡ Ok tt
  pub here : space_check flash memory (space_numbers (take i spaces)) (get_or spaces i no_space) ≡ Err error

-- What is found in a call that is lent such a description: a position that the error brings is that of the space that
-- is refused, and where a space is refused so, it is this error that is found.
pub record Positioned (alias flash memory : ℕ) (spaces : List Space) (given : Checked) : Type 0 where
  pub says : (error : CallError) (i : ℕ) → given ≡ Err error → (refusal_of error).position ≡ Some i
      → RefusedAt alias flash memory spaces i error
  pub found : (error : CallError) (i : ℕ) → RefusedAt alias flash memory spaces i error → given ≡ Err error
