-- How what is read from an input, and what is carried from chunk to chunk, lie in lent bytes.
use Rattle.std.specs.Prelude.{ℕ, ◌≡◌, Option, Some, None, List, [], ◌∷◌, ◌++◌, take, drop, get_or, replicate}
use Rattle.buffer.specs.Lent.{LentBytes, after}
use Rattle.can_frame_bytes.specs.Layout.{frame_bytes}
use Rattle.gridconnect_parse.specs.Parsing.{Parsed}
use Rattle.gridconnect_input.specs.Input.{begun_of, carry_with}
use Rattle.gridconnect_input.specs.declared.Carry.{Carry}
use Rattle.gridconnect_input.specs.declared.Next.{Next}

-- What a line stands for, in 20 bytes: whether it is a frame, three zeros, and the frame, or zeros where it is none.
unfoldable pub parsed_bytes : Parsed → List ℕ
parsed_bytes None = replicate 20 0
parsed_bytes (Some frame) = 1 ∷ 0 ∷ 0 ∷ 0 ∷ frame_bytes frame

-- The line of a step in 24 bytes: whether it completes one, three zeros, and what the line stands for, or zeros.
unfoldable pub line_bytes : Option Parsed → List ℕ
line_bytes None = replicate 24 0
line_bytes (Some parsed) = 1 ∷ 0 ∷ 0 ∷ 0 ∷ parsed_bytes parsed

-- A carry in 32 bytes: its length, its text, and two zeros.
unfoldable pub carry_bytes : Carry → List ℕ
carry_bytes c = c.len ∷ c.text ++ 0 ∷ 0 ∷ []

-- The carry that 32 bytes hold, whatever stands in them: the last two are not read.
unfoldable pub carry_in : List ℕ → Carry
carry_in bytes = record { len = get_or bytes 0 0; text = take 29 (drop 1 bytes); spare = replicate 2 0 }

-- The two carries hold the same beginning of a line: what stands behind it in the text is not read.
pub record SameBeginning (carry other : Carry) : Type 0 where
  pub len : carry.len ≡ other.len
  pub begun : begun_of carry ≡ begun_of other

-- A carry that is handed out is the same when it is handed in again.
abbrev pub CarryAgain : Type 0
CarryAgain = (text : List ℕ) → carry_in (carry_bytes (carry_with text)) ≡ carry_with text

-- After a step: its numbers in the line, and the carry afterwards in the place of the one before.
pub record Step (next : Next) (carry line : LentBytes) : Type 0 where
  pub given : after line ≡ line_bytes next.line
  pub carried : after carry ≡ carry_bytes next.carry
