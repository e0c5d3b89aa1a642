-- Document 01, "Commands" and "Refused because of the state": reads, writes and masked writes of a space. Replies are
-- given by their fields.
use Rattle.std.specs.Prelude.{ℕ, ◌-◌, ◌≡◌, List, take, drop, Ok, Err}
use Rattle.space_lookup.specs.Description.{window_of}
use Rattle.space_table.specs.declared.Space.{Space}
use Rattle.cmd_fields.specs.declared.Form.{Form}
use Rattle.reply_spec.specs.ReplyForms.{Reply}
use Rattle.reply_datagram.specs.Replies.{read_reply, failed_read, failed_write, in_bytes}
use Rattle.reply_answer.specs.Answers.{Answered, written, received_ok_reply, Agrees}
use Rattle.reply_answer.specs.declared.Answer.{Answer}
use Rattle.reply_answer.specs.declared.Answer.TheVariants.{Rejected, Written, UpdateComplete, Replied}
use Rattle.space_reach.specs.Reach.{ReachResult, code_of, index_of}
use Rattle.exec_store.specs.Storing.{OnlyWithin}

-- ---- reads

-- "the smaller of count and bytes left to the highest address"
abbrev pub bytes_read : List ℕ → List ℕ → Space → ℕ → ℕ → List ℕ
bytes_read flash memory s address count = take count (drop (address - s.lowest) (window_of flash memory s))

unfoldable pub read_result : List ℕ → List ℕ → Form → ℕ → ℕ → ℕ → ReachResult → Answered Reply
read_result flash memory form space address count (Err failure) = received_ok_reply (failed_read form space address (code_of failure))
read_result flash memory form space address count (Ok s) = received_ok_reply (read_reply form space address (bytes_read flash memory s address count))

-- ---- writes

-- A write of n bytes: "Success is Received OK 0x00 and nothing more"
unfoldable pub write_result : Form → ℕ → ℕ → ℕ → ReachResult → Answered Reply
write_result form space address n (Err failure) = received_ok_reply (failed_write form space address (code_of failure))
write_result form space address n (Ok s) = written (index_of s address) n

-- A write that fails "changes nothing". What is stored from an index of memory on is given by `store`.
unfoldable pub memory_after : (ℕ → List ℕ → List ℕ) → List ℕ → ℕ → ReachResult → List ℕ
memory_after store memory address (Err failure) = memory
memory_after store memory address (Ok s) = store (index_of s address) memory

-- ---- what an answer says of memory

-- Memory, which was `old` and is `new`, by the answer: a write changes bytes of its range alone, and nothing else
-- changes memory.
abbrev pub Changes : Answer → List ℕ → List ℕ → Type 0
Changes (Rejected code) old new = new ≡ old
Changes (Written index n) old new = OnlyWithin index n old new
Changes UpdateComplete old new = new ≡ old
Changes (Replied n) old new = new ≡ old

-- ---- what the code gives back

-- The answer r, the buffer `after` and the memory `stored` are those of a write of n bytes that reached or failed, over
-- the buffer `before` and the memory `old`.
pub record WriteEnds (store : ℕ → List ℕ → List ℕ) (form : Form) (space address n : ℕ) (reached : ReachResult) (r : Answer) (before after old stored : List ℕ) : Type 0 where
  pub answer : Agrees (in_bytes (write_result form space address n reached)) r before after
  pub memory : stored ≡ memory_after store old address reached
  pub changes : Changes r old stored
