-- Document 01, "Refused because of the input": B6, behind those of the description.
use Rattle.std.specs.Prelude.{ℕ, cond, List, ltb, Ok, Err}
use Rattle.space_table.specs.declared.Space.{Space}
use Rattle.call_error.specs.CallErrors.{or_else, description_check, Checked}
use Rattle.call_error.specs.declared.CallError.TheVariants.{B6ReplyBufferTooShort}

-- "B6: reply buffer under 72 bytes."
abbrev pub buffer_check : ℕ → Checked
buffer_check reply = cond (ltb reply 72) (Err B6ReplyBufferTooShort) (Ok tt)

-- The first of B11 to B14 and B2 to B6 that applies, by the sizes of flash, memory and reply buffer.
abbrev pub call_check : ℕ → List Space → ℕ → ℕ → ℕ → Checked
call_check alias spaces flash memory reply = or_else (description_check alias spaces flash memory) (buffer_check reply)
