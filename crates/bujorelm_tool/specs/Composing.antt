-- What a caller in C finds after a command was to be written: the bytes lent for the numbers, and the lent buffer.
use Rattle.std.specs.Prelude.{◌≡◌, Bool, List, ℕ, length}
use Rattle.cmd_fields.specs.Commands.{Request}
use Rattle.tool_write_spec.specs.Writing.{writing, command_answer, command_buffer}
use Rattle.tool_result_spec.specs.Numbers.{composed_of}
use Rattle.tool_result_spec.specs.Layout.{composed_bytes}

-- The numbers in `composed` and the buffer `after` are what comes of writing q over the buffer `before`.
pub record Composes (whole : Bool) (q : Request) (composed before after : List ℕ) : Type 0 where
  pub answer : composed ≡ composed_bytes (composed_of (command_answer (writing whole q (length before))))
  pub buffer : after ≡ command_buffer (writing whole q (length before)) before
