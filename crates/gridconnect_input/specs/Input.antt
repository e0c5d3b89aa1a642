-- An input text as lines, and how it is read in chunks. Document 01, "The demonstration board": each line ends with a
-- newline, and the last may lack it.
use Rattle.std.specs.Prelude.{ℕ, ◌+◌, ◌-◌, ◌≤◌, ◌<◌, ◌≡◌, Bool, true, false, cond, Option, Some, None, is_some, not, ◌&&◌, ltb, eqb, length, take, drop, replicate}
use mathlib.Core.List.{List, [], ◌∷◌, ◌++◌, map, flatten}
use Rattle.gridconnect_input.specs.Newline.{until_newline}
use Rattle.gridconnect_parse.specs.Parsing.{Parsed, parse_of}
use Rattle.gridconnect_input.specs.declared.Carry.{Carry}
use Rattle.gridconnect_input.specs.declared.Next.{Next}

-- ---- a text split at its newlines

-- The lines that a text completes, and what stands behind its last newline, where a line was begun before.
unfoldable pub completed : List ℕ → List ℕ → List (List ℕ)
completed begun [] = []
completed begun (b ∷ more) = cond (eqb b 10) (begun ∷ completed [] more) (completed (begun ++ b ∷ []) more)

unfoldable pub unfinished : List ℕ → List ℕ → List ℕ
unfinished begun [] = begun
unfinished begun (b ∷ more) = cond (eqb b 10) (unfinished [] more) (unfinished (begun ++ b ∷ []) more)

abbrev pub complete_lines : List ℕ → List (List ℕ)
complete_lines text = completed [] text

abbrev pub last_line : List ℕ → List ℕ
last_line text = unfinished [] text

-- A last line that lacks its newline is a line; nothing behind the last newline is none.
unfoldable pub end_line : List ℕ → List (List ℕ)
end_line [] = []
end_line (b ∷ more) = (b ∷ more) ∷ []

abbrev pub lines_of : List ℕ → List (List ℕ)
lines_of text = complete_lines text ++ end_line (last_line text)

-- The split is right: no line holds a newline, and the lines with a newline behind each, then the last line, are the
-- text.
unfoldable pub no_newline : List ℕ → Bool
no_newline [] = true
no_newline (b ∷ more) = not (eqb b 10) && no_newline more

unfoldable pub none_with_newline : List (List ℕ) → Bool
none_with_newline [] = true
none_with_newline (line ∷ more) = no_newline line && none_with_newline more

unfoldable pub joined_lines : List (List ℕ) → List ℕ → List ℕ
joined_lines [] last = last
joined_lines (line ∷ more) last = line ++ 10 ∷ joined_lines more last

pub record Split (text : List ℕ) : Type 0 where
  pub same : joined_lines (complete_lines text) (last_line text) ≡ text
  pub lines : none_with_newline (complete_lines text) ≡ true
  pub last : no_newline (last_line text) ≡ true

-- ---- the beginning of a line that is carried from chunk to chunk

-- How many bytes are kept: one more than a good line has, so that an overlong line is known to be bad.
abbrev pub kept : ℕ
kept = 29

abbrev pub cut_off : List ℕ → List ℕ
cut_off line = take kept line

-- Behind what is kept stand zeros.
abbrev pub carry_with : List ℕ → Carry
carry_with line = record { len = length (cut_off line); text = cut_off line ++ replicate (29 - length (cut_off line)) 0; spare = replicate 2 0 }

-- The carry behind a text that was read.
abbrev pub carry_of : List ℕ → Carry
carry_of text = carry_with (last_line text)

-- The beginning that a carry holds. A length over 29, which no text leads to, stands for all 29 bytes: that of an
-- overlong line.
abbrev pub begun_of : Carry → List ℕ
begun_of carry = take carry.len carry.text

-- ---- reading

-- What is read from a chunk behind a carry, and the carry afterwards.
unfoldable pub read_from : Carry → List ℕ → List Parsed
read_from carry chunk = map parse_of (completed (begun_of carry) chunk)

unfoldable pub carry_after : Carry → List ℕ → Carry
carry_after carry chunk = carry_with (unfinished (begun_of carry) chunk)

-- What is read from chunk after chunk, and the carry after all of them.
unfoldable pub read_chunks : Carry → List (List ℕ) → List Parsed
read_chunks carry [] = []
read_chunks carry (chunk ∷ more) = read_from carry chunk ++ read_chunks (carry_after carry chunk) more

unfoldable pub carry_after_chunks : Carry → List (List ℕ) → Carry
carry_after_chunks carry [] = carry
carry_after_chunks carry (chunk ∷ more) = carry_after_chunks (carry_after carry chunk) more

abbrev pub line : Parsed → Carry → ℕ → Next
line parsed carry at = record { line = Some parsed; carry = carry; at = at }

abbrev pub no_line : Carry → ℕ → Next
no_line carry at = record { line = None; carry = carry; at = at }

-- The next line of what is left of a chunk.
unfoldable pub next_of : Carry → List ℕ → ℕ → Next
next_of carry chunk from =
    let rest = drop from chunk in
    let part = until_newline rest in
    cond (ltb (length part) (length rest))
    (line (parse_of (begun_of carry ++ part)) (carry_with []) (from + length part + 1))
    (no_line (carry_with (begun_of carry ++ part)) (length chunk))

-- The end of the input.
unfoldable pub last_of : Carry → Next
last_of carry = cond (eqb carry.len 0) (no_line (carry_with []) 0) (line (parse_of (begun_of carry)) (carry_with []) 0)

-- The line of a step as a list.
abbrev pub listed : Option Parsed → List Parsed
listed None = []
listed (Some parsed) = parsed ∷ []

abbrev pub lines_given : Next → List Parsed
lines_given next = listed next.line

-- ---- what a step through a chunk means

abbrev pub parsed_lines : List ℕ → List Parsed
parsed_lines text = map parse_of (complete_lines text)

-- The text that was read before a step is `past`, and `bytes` are those that the step read.
pub record FollowsOn (past bytes : List ℕ) (next : Next) : Type 0 where
  pub frames : parsed_lines (past ++ bytes) ≡ parsed_lines past ++ lines_given next
  pub carry : next.carry ≡ carry_of (past ++ bytes)

pub record LineStep (carry : Carry) (chunk : List ℕ) (from : ℕ) (next : Next) : Type 0 where
  -- Whatever text led to the carry: the step completes the text's next line or none, and leaves the carry of the longer
  -- text.
  pub behind : (past : List ℕ) → carry ≡ carry_of past → FollowsOn past (take (next.at - from) (drop from chunk)) next
  -- What was to be read from the chunk is this line and what is left.
  pub lines : read_from carry (drop from chunk) ≡ lines_given next ++ read_from next.carry (drop next.at chunk)
  pub left : carry_after carry (drop from chunk) ≡ carry_after next.carry (drop next.at chunk)
  -- A line: the step went on within the chunk.
  pub onward : is_some next.line ≡ true → (from < next.at) × (next.at ≤ length chunk)
  -- No line: none ends in the rest of the chunk, and the carry is the one behind it.
  pub ended : is_some next.line ≡ false → (read_from carry (drop from chunk) ≡ []) × (next.carry ≡ carry_after carry (drop from chunk))

-- How the input is cut into chunks plays no part.
pub record AnyCuts : Type 0 where
  -- The lines of the chunks, read one after the other, are those of the whole input, and so with the last line.
  pub lines : (chunks : List (List ℕ)) → read_chunks (carry_of []) chunks ≡ parsed_lines (flatten chunks)
  pub carry : (chunks : List (List ℕ)) → carry_after_chunks (carry_of []) chunks ≡ carry_of (flatten chunks)
  pub all : (chunks : List (List ℕ)) → read_chunks (carry_of []) chunks ++ lines_given (last_of (carry_after_chunks (carry_of []) chunks)) ≡ map parse_of (lines_of (flatten chunks))
  -- The same for one cut behind any carry.
  pub read : (carry : Carry) (xs ys : List ℕ) → read_from carry (xs ++ ys) ≡ read_from carry xs ++ read_from (carry_after carry xs) ys
  pub after : (carry : Carry) (xs ys : List ℕ) → carry_after carry (xs ++ ys) ≡ carry_after (carry_after carry xs) ys
  pub split : (text : List ℕ) → Split text

-- The end of the input.
abbrev pub InputEnds : Carry → Next → Type 0
InputEnds carry next = (text : List ℕ) → carry ≡ carry_of text → lines_given next ≡ map parse_of (end_line (last_line text))
