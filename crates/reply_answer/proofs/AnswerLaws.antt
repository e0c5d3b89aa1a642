-- Laws of a reply in a buffer: one that the buffer has room for, and one that it has not.
-- Assumes nothing.
use Prim.Native.Nat.{ℕ, ◌≤◌, ◌<◌}
use mathlib.Core.Path.{◌≡◌, ap}
use mathlib.Core.List.{List}
use lib.ListN.{length}
use borrow.Author.Tests.{le-leb, lt-leb}
use Rattle.buffer.specs.Buffer.{over}
use Rattle.reply_answer.specs.Answers.{received_ok_reply, Agrees}
use Rattle.reply_answer.specs.declared.Answer.TheVariants.{Replied}

pub no_room : (bytes buffer : List ℕ) → length buffer < length bytes → Agrees (received_ok_reply bytes) (Replied 0) buffer buffer
no_room bytes buffer h = record { answer = rw (lt-leb _ _ h); buffer = rw (lt-leb _ _ h) }

pub has_room : (bytes buffer : List ℕ) {n : ℕ} {after : List ℕ} → length bytes ≤ length buffer → n ≡ length bytes → after ≡ over bytes buffer →
    Agrees (received_ok_reply bytes) (Replied n) buffer after
has_room bytes buffer h p q = record { answer = rw (le-leb _ _ h) (ap Replied p); buffer = rw (le-leb _ _ h) q }
