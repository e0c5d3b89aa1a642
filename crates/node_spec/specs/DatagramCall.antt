-- The call for a whole datagram: document 01, "Refused because of the input", and what is lent as the caller finds it
-- afterwards.
use Rattle.std.specs.Prelude.{ℕ, List, ◌≡◌, Ok, Err}
use Rattle.buffer.specs.Lent.{LentBytes, GivenBytes, before, after, given}
use Rattle.call_error.specs.CallErrors.{unless_failed, OrError}
use Rattle.call_error.specs.declared.CallError.{CallError}
use Rattle.reply_answer.specs.declared.Answer.{Answer}
use Rattle.reply_answer.specs.Answers.{answer_of, buffer_of, SmallAnswer}
use Rattle.exec_spec.specs.Access.{Changes}
use Rattle.exec_spec.specs.Handling.{Fixed, Contents, Outcome, handle}
use Rattle.exec_spec.specs.LentBoard.{contents_before, contents_after}
use Rattle.node_spec.specs.CallerErrors.{datagram_check}

-- What the caller finds after a call: the answer or the error, the reply buffer, and memory with the registers.
pub record Final : Type 0 where
  pub handled : OrError Answer
  pub reply : List ℕ
  pub contents : Contents

-- "nothing changes"
abbrev pub refused_final : Contents → List ℕ → CallError → Final
refused_final c buffer error = record { handled = Err error; reply = buffer; contents = c }

abbrev pub answered_final : Outcome → List ℕ → Final
answered_final o buffer =
    record { handled = Ok (answer_of o.result); reply = buffer_of o.result buffer; contents = o.contents }

-- "House numbers, returned to the caller and never sent, checked first at each call"
unfoldable pub datagram_call : Fixed → Contents → List ℕ → List ℕ → Final
datagram_call x c d buffer =
    unless_failed (datagram_check x c buffer) (refused_final c buffer) (answered_final (handle x c d) buffer)

-- The answer r, and the buffer and the contents afterwards, are what the caller is to find.
pub record EndsAs (f : Final) (r : OrError Answer) (buffer : List ℕ) (left : Contents) : Type 0 where
  pub handled : r ≡ f.handled
  pub reply : buffer ≡ f.reply
  pub contents : left ≡ f.contents

-- How large the numbers of an answer are.
abbrev pub SmallHandled : OrError Answer → Type 0
SmallHandled (Err error) = Unit {0}
SmallHandled (Ok a) = SmallAnswer a

-- Memory, which was `old` and is `new`, by what comes of the call: an error leaves it, and an answer names the bytes
-- that changed.
abbrev pub HandledChanges : OrError Answer → List ℕ → List ℕ → Type 0
HandledChanges (Err error) old new = new ≡ old
HandledChanges (Ok a) old new = Changes a old new

-- Everything that the caller finds after the call for a whole datagram, of what it lent and handed in.
module _ (x : Fixed) (memory registers : LentBytes) (datagram : GivenBytes)
    (reply : LentBytes) where
  abbrev pub lent_datagram_call : Final
  lent_datagram_call =
      datagram_call x (contents_before memory registers) (given datagram)
      (before reply)

  pub record DatagramEnds (r : OrError Answer) : Type 0 where
    pub ends : EndsAs lent_datagram_call r (after reply) (contents_after memory registers)
    pub small : SmallHandled r
    pub changes : HandledChanges r (before memory) (after memory)
