-- Document 01, "Commands": what the board replies to reads, writes and masked writes, and to 0x88, by the fields of the
-- reply. "These replies carry no text."
use Rattle.std.specs.Prelude.{ℕ, List}
use Rattle.cmd_fields.specs.declared.Form.{Form}
use Rattle.reply_spec.specs.ReplyForms.{no_text, Reply, read, read_failure, write_failure, locked, reply_bytes}
use Rattle.reply_answer.specs.Answers.{Answered, datagram_rejected, written, update_completed, received_ok_reply, Result, Agrees}
use Rattle.reply_answer.specs.declared.Answer.{Answer}

-- "a reply with command + 0x10, same address and space byte", and the bytes read
abbrev pub read_reply : Form → ℕ → ℕ → List ℕ → Reply
read_reply = read

-- "a reply with the address, the space byte if the command had one, and two bytes of code": of a read, and of a write
-- or a masked write
abbrev pub failed_read : Form → ℕ → ℕ → ℕ → Reply
failed_read form space address code = read_failure form space address code no_text

abbrev pub failed_write : Form → ℕ → ℕ → ℕ → Reply
failed_write form space address code = write_failure form space address code no_text

-- "Reply 20 8A and the lock memory afterwards."
abbrev pub lock_reply : List ℕ → Reply
lock_reply = locked

-- An answer whose reply is given by its fields, with the bytes of the reply.
abbrev pub in_bytes : Answered Reply → Result
in_bytes (datagram_rejected code) = datagram_rejected code
in_bytes (written index n) = written index n
in_bytes update_completed = update_completed
in_bytes (received_ok_reply reply) = received_ok_reply (reply_bytes reply)

-- The answer r and the buffer `after` are those of this reply, over the buffer `before`.
abbrev pub Sends : Reply → Answer → List ℕ → List ℕ → Type 0
Sends reply r before after = Agrees (in_bytes (received_ok_reply reply)) r before after
