-- How a datagram is answered, and how the code says so: the reply's bytes are in the lent buffer, and the answer has
-- their number.
use Rattle.std.specs.Prelude.{ℕ, ◌+◌, ◌≤◌, ◌≡◌, cond, List, [], leb, length}
use Rattle.buffer.specs.Buffer.{over}
use Rattle.reply_answer.specs.declared.Rejection.{Rejection}
use Rattle.reply_answer.specs.declared.Rejection.TheVariants.{InvalidArguments, UnknownCommand, UnknownDatagramType}
use Rattle.reply_answer.specs.declared.Answer.{Answer}
use Rattle.reply_answer.specs.declared.Answer.TheVariants.{Rejected, Written, UpdateComplete, Replied}

-- The code that is sent with Rejected: "0x1080 wrong length, odd pairs or bad count", "0x1041 unknown command",
-- "0x1042 byte 0 not 0x20".
abbrev pub code_of : Rejection → ℕ
code_of InvalidArguments = 0x1080
code_of UnknownCommand = 0x1041
code_of UnknownDatagramType = 0x1042

-- How a datagram is answered. A reply is given by an R, which is its fields or its bytes.
pub data Answered (R : Type 0) : Type 0 where
  -- Rejected with a code
  datagram_rejected : ℕ → Answered R
  -- a write or a masked write, of n bytes from an index of memory on: "Success is Received OK 0x00 and nothing more"
  written : ℕ → ℕ → Answered R
  -- "0xA8, two bytes: Received OK 0x00"
  update_completed : Answered R
  -- Received OK 0x80, and then a reply datagram
  received_ok_reply : R → Answered R

-- with the bytes of the reply
abbrev pub Result : Type 0
Result = Answered (List ℕ)

-- The transport reply that an answer stands for: Received OK with its flags, or Rejected with its code.
pub data Transport : Type 0 where
  ok_flags : ℕ → Transport
  rejected_code : ℕ → Transport

abbrev pub transport_of : Answer → Transport
transport_of (Rejected code) = rejected_code code
transport_of (Written index n) = ok_flags 0x00
transport_of UpdateComplete = ok_flags 0x00
transport_of (Replied length) = ok_flags 0x80

-- A result as an answer of the code.
abbrev pub answer_of : Result → Answer
answer_of (datagram_rejected code) = Rejected code
answer_of (written index n) = Written index n
answer_of update_completed = UpdateComplete
answer_of (received_ok_reply reply) = Replied (length reply)

-- The reply buffer afterwards: "bytes past its length, and the whole buffer where there is none, are untouched".
abbrev pub buffer_of : Result → List ℕ → List ℕ
buffer_of (datagram_rejected code) buffer = buffer
buffer_of (written index n) buffer = buffer
buffer_of update_completed buffer = buffer
buffer_of (received_ok_reply reply) buffer = over reply buffer

-- What a buffer of any size takes of a reply: all its bytes, or none where it has no room for all. B6 refuses a buffer
-- under 72 bytes and "No reply is over 72 bytes", so that in a call that is not refused this is the result itself.
abbrev pub fitting : List ℕ → List ℕ → List ℕ
fitting reply buffer = cond (leb (length reply) (length buffer)) reply []

abbrev pub fitted : Result → List ℕ → Result
fitted (datagram_rejected code) buffer = datagram_rejected code
fitted (written index n) buffer = written index n
fitted update_completed buffer = update_completed
fitted (received_ok_reply reply) buffer = received_ok_reply (fitting reply buffer)

-- The answer r and the buffer `after` are what the result says, over the buffer `before`.
pub record Agrees (result : Result) (r : Answer) (before after : List ℕ) : Type 0 where
  pub answer : r ≡ answer_of (fitted result before)
  pub buffer : after ≡ buffer_of (fitted result before) before

-- How large the numbers of an answer are, where the caller made no error: what is written lies in memory, which
-- by B12 has at most 65,536 bytes, and is at most 64 bytes; and "No reply is over 72 bytes."
abbrev pub SmallAnswer : Answer → Type 0
SmallAnswer (Rejected code) = Unit {0}
SmallAnswer (Written index n) = (index + n ≤ 65536) × (n ≤ 64)
SmallAnswer UpdateComplete = Unit {0}
SmallAnswer (Replied n) = n ≤ 72
