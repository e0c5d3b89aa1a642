-- Chunks of input answered, as far as the buffer has room: what the code gives back.
use Rattle.std.specs.Prelude.{ℕ, ◌≤◌, ◌<◌, ◌≡◌, cond, List, [], length, take, drop}
use Rattle.rx_place_spec.specs.State.{State}
use Rattle.exec_spec.specs.Handling.{Fixed, Contents}
use Rattle.gridconnect_parse.specs.Parsing.{Parsed}
use Rattle.gridconnect_frames.specs.Room.{has_room}
use Rattle.gridconnect_input.specs.Input.{read_from, carry_after, last_of, lines_given}
use Rattle.gridconnect_input.specs.declared.Carry.{Carry}
use Rattle.gridconnect_session_spec.specs.Session.{after_text, answer_lines}
use Rattle.gridconnect_session.specs.declared.Progress.{Progress}

-- A chunk answered from an index on behind a carry, as far as the buffer has room. The buffer was `before` and is
-- `after`; c' and st' are what is left.
pub record ChunkAnswered (x : Fixed) (st : State) (c : Contents) (begun : Carry) (chunk : List ℕ) (from : ℕ) (r : Progress) (before after : List ℕ) (c' : Contents) (st' : State) : Type 0 where
  -- What the lines are answered with is the text in front of the buffer, and then what the lines that are left are
  -- answered with.
  pub text :
      answer_lines x st c (read_from begun (drop from chunk))
      ≡ after_text (take r.end after) (answer_lines x st' c' (read_from r.carry (drop r.at chunk)))
  pub carry : carry_after begun (drop from chunk) ≡ carry_after r.carry (drop r.at chunk)
  -- Behind the text the buffer is as it was.
  pub end : r.end ≤ length before
  pub size : length after ≡ length before
  pub rest : drop r.end after ≡ drop r.end before
  -- Where the buffer has room for the longest answer to a line, 290 bytes, the chunk is answered by a line at least, or
  -- to its end.
  pub onward : from < length chunk → 290 ≤ length before → from < r.at

-- The line that the end of the input completes: answered where the buffer has room for the longest answer.
abbrev pub at_end : Carry → List ℕ → List Parsed
at_end carry buffer = cond (has_room 0 (length buffer)) (lines_given (last_of carry)) []
