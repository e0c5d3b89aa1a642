-- What a request does. Its reply is given by the fields.
use Rattle.std.specs.Prelude.{ℕ, ◌≡◌, true, false, List, length}
use Rattle.space_lookup.specs.Description.{find_space}
use Rattle.space_table.specs.declared.Space.{Space}
use Rattle.space_lookup.specs.declared.Found.{Found}
use Rattle.cmd_fields.specs.Commands.{Request, read, write, write_masked, options, information, reserve, update_complete}
use Rattle.cmd_fields.specs.declared.Form.{Form}
use Rattle.exec_registers.specs.Registers.{Registers, with_lock}
use Rattle.exec_lock.specs.Lock.{test_and_set}
use Rattle.reply_spec.specs.ReplyForms.{Reply}
use Rattle.reply_datagram.specs.Replies.{lock_reply, in_bytes}
use Rattle.reply_datagram.specs.Inquiry.{options_reply, information_reply}
use Rattle.reply_answer.specs.Answers.{Answered, Result, update_completed, received_ok_reply, answer_of, ok_flags, transport_of, Agrees}
use Rattle.reply_answer.specs.declared.Answer.{Answer}
use Rattle.space_reach.specs.Reach.{access}
use Rattle.exec_store.specs.Storing.{store_bytes, store_masked}
use Rattle.exec_spec.specs.Access.{read_result, write_result, memory_after}

-- What stays the same over a session: the description, "the board's alias, one Write Lengths byte sent as given, and 0
-- to 16 spaces in order", and flash.
pub record Fixed : Type 0 where
  pub alias : ℕ
  pub write_lengths : ℕ
  pub spaces : List Space
  pub flash : List ℕ

abbrev pub fixed : ℕ → ℕ → List Space → List ℕ → Fixed
fixed alias write_lengths spaces flash = record { alias = alias; write_lengths = write_lengths; spaces = spaces; flash = flash }

-- What a datagram may change: memory, and the registers, of which the lock memory is one.
pub record Contents : Type 0 where
  pub memory : List ℕ
  pub registers : Registers

abbrev pub contents : List ℕ → Registers → Contents
contents memory registers = record { memory = memory; registers = registers }

-- The answer to a datagram, and what it leaves. A reply is given by an R, which is its fields or its bytes.
pub record OutcomeBy (R : Type 0) : Type 0 where
  pub result : Answered R
  pub contents : Contents

abbrev pub outcome : {R : Type 0} → Answered R → Contents → OutcomeBy R
outcome r c = record { result = r; contents = c }

-- with the bytes of the reply
abbrev pub Outcome : Type 0
Outcome = OutcomeBy (List ℕ)

abbrev pub sent : OutcomeBy Reply → Outcome
sent o = outcome (in_bytes o.result) o.contents

-- What is known of the space that a request names.
abbrev pub found_in : Fixed → ℕ → Found
found_in x space = find_space x.spaces space

-- A write: what is stored is given by `store`. It changes memory alone.
abbrev pub write_outcome : (ℕ → List ℕ → List ℕ) → Fixed → Contents → Form → ℕ → ℕ → ℕ → OutcomeBy Reply
write_outcome store x c form space address n =
    let reached = access true (found_in x space) address n in
    outcome (write_result form space address n reached)
    (contents (memory_after store c.memory address reached) c.registers)

-- "0x88": the registers after an ID was sent. "The lock changes nothing else."
abbrev pub lock_tested : Registers → List ℕ → Registers
lock_tested r id = with_lock (test_and_set r.lock id) r

-- "Reply 20 8A and the lock memory afterwards."
abbrev pub lock_outcome : Contents → List ℕ → OutcomeBy Reply
lock_outcome c id =
    let left = lock_tested c.registers id in
    outcome (received_ok_reply (lock_reply left.lock)) (contents c.memory left)

unfoldable pub perform : Fixed → Contents → Form → Request → OutcomeBy Reply
perform x c form (read space address count) =
    outcome (read_result x.flash c.memory form space address count (access false (found_in x space) address 1)) c
perform x c form (write space address bytes) = write_outcome (store_bytes bytes) x c form space address (length bytes)
perform x c form (write_masked space address pairs) = write_outcome (store_masked pairs) x c form space address (length pairs)
perform x c form options = outcome (received_ok_reply (options_reply x.write_lengths x.spaces)) c
perform x c form (information space) = outcome (received_ok_reply (information_reply space (found_in x space))) c
perform x c form (reserve id) = lock_outcome c id
perform x c form update_complete = outcome update_completed c

-- A read is answered with "Received OK 0x80, then a reply", and "0x80, 0x84 and 0x88 answer Received OK 0x80 before the
-- reply": no board that sends Received OK 0x00 to all does. 0xA8 has an answer of its own, which is no write's.
abbrev pub Announced : Request → Result → Type 0
Announced (read space address count) r = transport_of (answer_of r) ≡ ok_flags 0x80
Announced (write space address bytes) r = Unit {0}
Announced (write_masked space address pairs) r = Unit {0}
Announced options r = transport_of (answer_of r) ≡ ok_flags 0x80
Announced (information space) r = transport_of (answer_of r) ≡ ok_flags 0x80
Announced (reserve id) r = transport_of (answer_of r) ≡ ok_flags 0x80
Announced update_complete r = r ≡ update_completed

-- of every request
abbrev pub AllAnnounced : Type 0
AllAnnounced =
    (x : Fixed) (c : Contents) (form : Form) (q : Request) → Announced q (in_bytes (perform x c form q).result)

-- What a request leaves of the contents, which were `old` and are `new`: a write changes memory alone, 0x88 the lock
-- memory alone ("The lock changes nothing else"), and the others nothing.
abbrev pub Leaves : Request → Contents → Contents → Type 0
Leaves (read space address count) old new = new ≡ old
Leaves (write space address bytes) old new = new.registers ≡ old.registers
Leaves (write_masked space address pairs) old new = new.registers ≡ old.registers
Leaves options old new = new ≡ old
Leaves (information space) old new = new ≡ old
Leaves (reserve id) old new = new ≡ contents old.memory (with_lock new.registers.lock old.registers)
Leaves update_complete old new = new ≡ old

-- of every request
abbrev pub AllLeave : Type 0
AllLeave = (x : Fixed) (c : Contents) (form : Form) (q : Request) → Leaves q c (perform x c form q).contents

-- ---- what the code gives back

-- "The lock memory is six bytes", so many as the reply to 0x88 shows.
abbrev pub SixBytes : Request → List ℕ → Type 0
SixBytes (read space address count) held = Unit {0}
SixBytes (write space address bytes) held = Unit {0}
SixBytes (write_masked space address pairs) held = Unit {0}
SixBytes options held = Unit {0}
SixBytes (information space) held = Unit {0}
SixBytes (reserve id) held = length held ≡ 6
SixBytes update_complete held = Unit {0}

-- The answer r, the buffer `after` and the contents `left` are what a request does, over the buffer `before`.
pub record Performed (x : Fixed) (c : Contents) (form : Form) (q : Request) (r : Answer)
    (before after : List ℕ) (left : Contents) : Type 0 where
  pub answer : Agrees (in_bytes (perform x c form q).result) r before after
  pub contents : left ≡ (perform x c form q).contents
  pub six : SixBytes q left.registers.lock
