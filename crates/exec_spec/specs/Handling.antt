-- A datagram handled whole. What a request does, and the records that this speaks of, are those of `Performing`, passed
-- on here.
use Rattle.std.specs.Prelude.{ℕ, ◌+◌, ◌≤◌, ◌≡◌, List, length, Ok}
use Rattle.call_error.specs.CallErrors.{description_check}
use Rattle.cmd_decode.specs.Decoding.{Reading, rejected, request, decode}
use Rattle.reply_answer.specs.Answers.{code_of, Result, datagram_rejected, written, update_completed, received_ok_reply, answer_of, Agrees}
use Rattle.reply_answer.specs.declared.Answer.{Answer}
use Rattle.exec_spec.specs.Access.{Changes}
use Rattle.exec_spec.specs.Performing.{sent}
pub use Rattle.exec_spec.specs.Performing.{Fixed, fixed, Contents, contents, Outcome, outcome}
unfoldable pub use Rattle.exec_spec.specs.Performing.{perform}

-- A datagram handled whole, with the bytes of the reply. A rejected one leaves everything as it was.
abbrev pub answer_reading : Fixed → Contents → Reading → Outcome
answer_reading x c (rejected rejection) = outcome (datagram_rejected (code_of rejection)) c
answer_reading x c (request form q) = sent (perform x c form q)

unfoldable pub handle : Fixed → Contents → List ℕ → Outcome
handle x c d = answer_reading x c (decode d)

-- ---- the bytes that an outcome changes

-- What is written lies in a memory of m bytes.
abbrev pub WrittenInside : ℕ → Result → Type 0
WrittenInside m (datagram_rejected code) = Unit {0}
WrittenInside m (written index n) = index + n ≤ m
WrittenInside m update_completed = Unit {0}
WrittenInside m (received_ok_reply reply) = Unit {0}

-- Memory differs afterwards at most in the bytes that the answer names, and where the description with flash and
-- memory has no error these are bytes of memory.
pub record Bounds (x : Fixed) (c : Contents) (o : Outcome) : Type 0 where
  pub changes : Changes (answer_of o.result) c.memory o.contents.memory
  pub inside : description_check x.alias x.spaces (length x.flash) (length c.memory) ≡ Ok tt → WrittenInside (length c.memory) o.result

-- of every datagram
abbrev pub HandleBounds : Type 0
HandleBounds = (x : Fixed) (c : Contents) (d : List ℕ) → Bounds x c (handle x c d)

-- ---- what the code gives back

-- "No reply is over 72 bytes", and a write has "1–64 data bytes".
abbrev pub Short : Result → Type 0
Short (datagram_rejected code) = Unit {0}
Short (written index n) = n ≤ 64
Short update_completed = Unit {0}
Short (received_ok_reply reply) = length reply ≤ 72

-- The answer r, the buffer `after` and the contents `left` are what the outcome says, over the buffer `before`.
pub record Performs (o : Outcome) (r : Answer) (before after : List ℕ) (left : Contents) : Type 0 where
  pub answer : Agrees o.result r before after
  pub contents : left ≡ o.contents
  pub short : Short o.result
