-- C-16 of document 02, for a tool: what comes of the search for the next masked write, and how the code says so.
use Rattle.std.specs.Prelude.{◌≡◌, List, ℕ, cond, ltb, length, Option, Some, None, Result, Ok, Err}
use Rattle.buffer.specs.Buffer.{over}
use Rattle.tool_write_spec.specs.Writing.{pair_bytes}
use Rattle.cmd_fields.specs.Commands.{Pair}
use Rattle.mask_diff_spec.specs.Differences.{start_from, Search, lengths_differ, buffer_too_short, unchanged, change}
use Rattle.mask_diff.specs.declared.Change.{Change}
use Rattle.mask_diff.specs.declared.DiffError.{DiffError}
use Rattle.mask_diff.specs.declared.DiffError.TheVariants.{LengthsDiffer, BufferTooShort}

-- The index of the first byte that a masked write at or after an index touches, if there is one.
abbrev pub first_from : ℕ → List Pair → Option ℕ
first_from from e = cond (ltb (start_from from e) (length e)) (Some (start_from from e)) None

-- The answer of the code.
abbrev pub change_answer : Search → Result (Option Change) DiffError
change_answer lengths_differ = Err LengthsDiffer
change_answer buffer_too_short = Err BufferTooShort
change_answer unchanged = Ok None
change_answer (change start pairs) = Ok (Some (record { start = start; count = length pairs }))

-- The pairs, each as a mask and then its data, in front of the lent buffer: what stands behind them, and all where
-- there is no change, stays.
abbrev pub change_buffer : Search → List ℕ → List ℕ
change_buffer lengths_differ buffer = buffer
change_buffer buffer_too_short buffer = buffer
change_buffer unchanged buffer = buffer
change_buffer (change start pairs) buffer = over (pair_bytes pairs) buffer

-- The answer r and the buffer `after` are what comes of the search, over the buffer `before`.
pub record Finds (s : Search) (r : Result (Option Change) DiffError) (before after : List ℕ) : Type 0 where
  pub answer : r ≡ change_answer s
  pub buffer : after ≡ change_buffer s before
