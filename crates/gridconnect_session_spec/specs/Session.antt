-- A session's text: the lines of an input, answered one after the other, however the input is cut into chunks.
use Rattle.std.specs.Prelude.{ℕ, ◌≡◌}
use mathlib.Core.List.{List, [], ◌∷◌, ◌++◌, map, flatten}
use Rattle.rx_place_spec.specs.State.{State}
use Rattle.exec_spec.specs.Handling.{Fixed, Contents}
use Rattle.gridconnect_parse.specs.Parsing.{Parsed, parse_of}
use Rattle.gridconnect_input.specs.Input.{lines_of, read_from, carry_after, carry_of, last_of, lines_given}
use Rattle.gridconnect_input.specs.declared.Carry.{Carry}
use Rattle.gridconnect_session_spec.specs.Turn.{Turn, turn, answer_line}

-- ---- lines

-- A turn with a text in front of its own.
abbrev pub after_text : List ℕ → Turn → Turn
after_text text t = turn (text ++ t.text) t.state t.contents

-- Line after line, each on what the one before left.
unfoldable pub answer_lines : Fixed → State → Contents → List Parsed → Turn
answer_lines x st c [] = turn [] st c
answer_lines x st c (p ∷ more) = let t = answer_line x st c p in after_text t.text (answer_lines x t.state t.contents more)

-- A session: the lines of an input text.
abbrev pub session : Fixed → State → Contents → List ℕ → Turn
session x st c input = answer_lines x st c (map parse_of (lines_of input))

-- ---- chunks

-- An input that comes in chunks: the lines that each completes behind the carry of those before, and at the end a last
-- line that lacks its newline.
unfoldable pub session_in_chunks : Fixed → State → Contents → Carry → List (List ℕ) → Turn
session_in_chunks x st c carry [] = answer_lines x st c (lines_given (last_of carry))
session_in_chunks x st c carry (chunk ∷ more) =
    let t = answer_lines x st c (read_from carry chunk) in
    after_text t.text (session_in_chunks x t.state t.contents (carry_after carry chunk) more)

-- How the input is cut plays no part.
abbrev pub AnyChunks : Fixed → Type 0
AnyChunks x = (st : State) (c : Contents) (chunks : List (List ℕ)) → session_in_chunks x st c (carry_of []) chunks ≡ session x st c (flatten chunks)
