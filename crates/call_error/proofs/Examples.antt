-- Worked examples of the errors: a space at the end of its memory, and which of several errors is found.
-- Assumes nothing.
use Prim.Native.Nat.{ℕ}
use mathlib.Core.Path.{◌≡◌, refl}
use mathlib.Core.Bool.{true, false}
use mathlib.Core.List.{[], ◌∷◌}
use Rattle.space_table.specs.Table.{no_space}
use Rattle.space_table.specs.declared.Space.{Space}
use Rattle.call_error.specs.CallErrors.{among, window_check, spaces_check, limits_check}
use Rattle.call_error.specs.declared.CallError.TheVariants.{B11TooManySpaces, B12MemoryTooLarge, B13FlashTooLarge, B14AliasOutOfRange, B2LowestAboveHighest, B3WindowPastEnd}
use Rattle.std.specs.Prelude.{Ok, Err}

-- the limits, by alias, number of spaces, flash and memory: each is given where all behind it are broken too
spaces-first : limits_check 0 17 65537 65537 ≡ Err B11TooManySpaces
spaces-first = refl

memory-then : limits_check 0 16 65537 65537 ≡ Err B12MemoryTooLarge
memory-then = refl

flash-then : limits_check 4096 16 65537 65536 ≡ Err B13FlashTooLarge
flash-then = refl

alias-last : limits_check 4096 16 65536 65536 ≡ Err B14AliasOutOfRange
alias-last = refl

none-broken : limits_check 4095 16 65536 65536 ≡ Ok tt
none-broken = refl

-- a space of one address, in a memory of one byte: at its only byte, and past it
one_address : ℕ → Space
one_address offset = record { number = 0; read_only = true; in_flash = false; lowest = 5; highest = 5; offset = offset }

in_memory : window_check 0 1 0 (one_address 0) ≡ Ok tt
unfolding one_address
in_memory = refl

past_memory : window_check 0 1 0 (one_address 1) ≡ Err (B3WindowPastEnd 0)
unfolding one_address
past_memory = refl

-- two spaces without an address: the first of them is refused
first-of_two : spaces_check 65536 65536 [] (no_space ∷ no_space ∷ []) ≡ Err (B2LowestAboveHighest 0)
unfolding spaces_check among
first-of_two = refl
