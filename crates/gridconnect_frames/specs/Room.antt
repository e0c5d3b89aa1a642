-- The room that an answer takes as text: a transport reply and nine frames, each a line of at most 29 bytes.
use Rattle.std.specs.Prelude.{ℕ, ◌+◌, Bool, leb}

-- Whether a buffer of so many bytes has room for ten lines of the longest from an index on.
abbrev pub has_room : ℕ → ℕ → Bool
has_room at size = leb (at + 290) size
