-- The lengths of the replies, and the bytes that an outcome changes.
-- Assumes nothing.
use Prim.Native.Nat.{ℕ, ◌+◌, ◌≤◌}
use mathlib.Core.Path.{◌≡◌, refl, ap}
use mathlib.Core.Bool.{true, false}
use mathlib.Core.List.{List, ◌++◌}
use native.Mathlib.Omega.{arith}
use lib.Dec.{eqb}
use lib.ListN.{length, length-append, length-take}
use borrow.Author.Tests.{le-leb}
use Rattle.buffer.proofs.Choice.{cond-elim}
use Rattle.call_error.specs.CallErrors.{description_check}
use Rattle.space_lookup.specs.declared.Found.{Found}
use Rattle.space_lookup.specs.declared.Found.TheVariants.{Described, Empty, Unknown}
use Rattle.cmd_fields.specs.Commands.{Request, read, write, write_masked, options, information, reserve, update_complete, space_byte, head_bytes}
use Rattle.cmd_fields.specs.declared.Form.{Form}
use Rattle.cmd_fields.specs.declared.Form.TheVariants.{NoSpace, Byte6, Fd, Fe, Ff}
use Rattle.cmd_decode.specs.Decoding.{Reading, rejected, request, decode}
use Rattle.cmd_decode.proofs.Laws.{Allowed, allowed}
use Rattle.reply_spec.specs.ReplyForms.{no_text, no_address, lowest_address, reply_bytes}
use Rattle.reply_spec.specs.ReplyForms as reply
use Rattle.reply_datagram.specs.Replies.{in_bytes}
use Rattle.reply_datagram.specs.Inquiry.{information_reply, access_flag}
use Rattle.reply_answer.specs.Answers.{Result, datagram_rejected, written, update_completed, received_ok_reply, fitted, answer_of, ok_flags, transport_of}
use Rattle.reply_answer.specs.declared.Answer.{Answer}
use Rattle.space_reach.specs.Reach.{ReachResult, access}
use Rattle.space_reach.proofs.Laws.{writes-fit}
use Rattle.exec_store.specs.Storing.{store_bytes, store_masked, OnlyWithin}
use Rattle.exec_store.proofs.Laws.{bytes-within, pairs-within}
use Rattle.exec_spec.specs.Access.{read_result, write_result}
use Rattle.exec_spec.proofs.AccessLaws.{write-changes}
use Rattle.exec_spec.specs.Performing.{Fixed, Contents, found_in, outcome, sent, write_outcome, perform, Announced, Leaves, SixBytes, Performed}
use Rattle.exec_spec.specs.Handling.{answer_reading, handle, Short, Performs, WrittenInside, Bounds, HandleBounds}
use Rattle.std.specs.Prelude.{Ok, Err}

-- ---- the lengths of the replies

space-at_most : (form : Form) (n : ℕ) → length (space_byte form n) ≤ 1
space-at_most NoSpace n = omega arith
space-at_most Byte6 n = omega arith
space-at_most Fd n = omega arith
space-at_most Fe n = omega arith
space-at_most Ff n = omega arith

head_at_most : (command : ℕ) (form : Form) (space address : ℕ) → length (head_bytes command form space address) ≤ 7
unfolding head_bytes
head_at_most command form space address = omega (arith, space-at_most form space)

behind-head : (command : ℕ) (form : Form) (space address : ℕ) (bytes : List ℕ) → length bytes ≤ 64 → length (head_bytes command form space address ++ bytes) ≤ 72
behind-head command form space address bytes h =
    rw (length-append (head_bytes command form space address) bytes) (omega (arith, head_at_most command form space address, h))

read_short : (flash memory : List ℕ) (form : Form) (space address count : ℕ) (a : ReachResult) → count ≤ 64 → Short (in_bytes (read_result flash memory form space address count a))
unfolding read_result
read_short flash memory form space address count (Err failure) h = behind-head _ form space address _ (omega arith)
read_short flash memory form space address count (Ok s) h = behind-head _ form space address _ (rw length-take (omega arith))

write-short : (form : Form) (space address n : ℕ) (a : ReachResult) → n ≤ 64 → Short (in_bytes (write_result form space address n a))
unfolding write_result
write-short form space address n (Err failure) h = behind-head _ form space address _ (omega arith)
write-short form space address n (Ok s) h = h

information-short : (n : ℕ) (found : Found) → length (reply_bytes (information_reply n found)) ≤ 72
unfolding information_reply
information-short n (Described s) =
    cond-elim (λ y. length (reply_bytes y) ≤ 72) (eqb s.lowest 0)
    {a = reply.information true n s.highest (access_flag s) no_address no_text}
    {b = reply.information true n s.highest (access_flag s + 2) (lowest_address s.lowest) no_text} (λ _. omega arith) (λ _. omega arith)
information-short n (Empty read_only) = omega arith
information-short n Unknown = omega arith

-- of every request that a datagram can make
pub perform-short : (x : Fixed) (c : Contents) (form : Form) (q : Request) → Allowed q → {left : Contents} → left ≡ (perform x c form q).contents →
    SixBytes q left.registers.lock → Short (in_bytes (perform x c form q).result)
unfolding perform
perform-short x c form (read space address count) a e z = read_short _ _ form space address count (access false (found_in x space) address 1) a.1
perform-short x c form (write space address bytes) a e z = write-short form space address (length bytes) (access true (found_in x space) address (length bytes)) a.1
perform-short x c form (write_masked space address pairs) a e z =
    write-short form space address (length pairs) (access true (found_in x space) address (length pairs)) (omega (arith, a.1))
perform-short x c form options a e z = omega arith
perform-short x c form (information space) a e z = information-short space (found_in x space)
perform-short x c form (reserve id) a e z = let l = ap (λ (h : Contents). length h.registers.lock) e in omega (arith, l, z)
perform-short x c form update_complete a e z = tt

-- a request performed, as the answer to its datagram
pub request-handled : (x : Fixed) (c : Contents) (d : List ℕ) {form : Form} {q : Request} → decode d ≡ request form q →
    {r : Answer} {before after : List ℕ} {left : Contents} → Performed x c form q r before after left → Performs (handle x c d) r before after left
unfolding handle
request-handled x c d {form} {q} e p =
    let a : Allowed q = rw e at (allowed d) in
    rw e (record { answer = p.answer; contents = p.contents; short = perform-short x c form q a p.contents p.six })

-- a buffer of 72 bytes takes every such reply whole
pub whole : (r : Result) (buffer : List ℕ) → Short r → 72 ≤ length buffer → fitted r buffer ≡ r
whole (datagram_rejected code) buffer s h = refl
whole (written index n) buffer s h = refl
whole update_completed buffer s h = refl
whole (received_ok_reply reply) buffer s h = rw (le-leb (length reply) (length buffer) (omega (arith, s, h)))

-- ---- a reply is announced

read-announced : (flash memory : List ℕ) (form : Form) (space address count : ℕ) (a : ReachResult) → transport_of (answer_of (in_bytes (read_result flash memory form space address count a))) ≡ ok_flags 0x80
unfolding read_result
read-announced flash memory form space address count (Err failure) = refl
read-announced flash memory form space address count (Ok s) = refl

pub announced : (x : Fixed) (c : Contents) (form : Form) (q : Request) → Announced q (in_bytes (perform x c form q).result)
unfolding perform
announced x c form (read space address count) = read-announced x.flash c.memory form space address count (access false (found_in x space) address 1)
announced x c form (write space address bytes) = tt
announced x c form (write_masked space address pairs) = tt
announced x c form options = refl
announced x c form (information space) = refl
announced x c form (reserve id) = refl
announced x c form update_complete = refl

-- ---- what is left of the contents

pub leaves : (x : Fixed) (c : Contents) (form : Form) (q : Request) → Leaves q c (perform x c form q).contents
unfolding perform
leaves x c form (read space address count) = refl
leaves x c form (write space address bytes) = refl
leaves x c form (write_masked space address pairs) = refl
leaves x c form options = refl
leaves x c form (information space) = refl
leaves x c form (reserve id) = refl
leaves x c form update_complete = refl

-- ---- the bytes that an outcome changes

module _ (x : Fixed) (c : Contents) where
  read-bounds : (form : Form) (space address count : ℕ) (a : ReachResult) →
      Bounds x c (sent (outcome (read_result x.flash c.memory form space address count a) c))
  unfolding read_result
  read-bounds form space address count (Err failure) = record { changes = refl; inside = λ _. tt }
  read-bounds form space address count (Ok s) = record { changes = refl; inside = λ _. tt }

  module _ (form : Form) (space address n : ℕ) where
    write-inside : (a : ReachResult) → access true (found_in x space) address n ≡ a →
        description_check x.alias x.spaces (length x.flash) (length c.memory) ≡ Ok tt →
        WrittenInside (length c.memory) (in_bytes (write_result form space address n a))
    unfolding write_result
    write-inside (Err failure) e g = tt
    write-inside (Ok s) e g = writes-fit x.alias x.spaces (length x.flash) (length c.memory) space address n s g e

    write-bounds : (store : ℕ → List ℕ → List ℕ) → ((index : ℕ) → OnlyWithin index n c.memory (store index c.memory)) →
        Bounds x c (sent (write_outcome store x c form space address n))
    write-bounds store w =
        let a = access true (found_in x space) address n in
        record { changes = write-changes store form space address n c.memory w a; inside = write-inside a refl }

  perform-bounds : (form : Form) (q : Request) → Bounds x c (sent (perform x c form q))
  unfolding perform
  perform-bounds form (read space address count) = read-bounds form space address count (access false (found_in x space) address 1)
  perform-bounds form (write space address bytes) = write-bounds form space address (length bytes) (store_bytes bytes) (bytes-within bytes c.memory)
  perform-bounds form (write_masked space address pairs) =
      write-bounds form space address (length pairs) (store_masked pairs) (pairs-within pairs c.memory)
  perform-bounds form options = record { changes = refl; inside = λ _. tt }
  perform-bounds form (information space) = record { changes = refl; inside = λ _. tt }
  perform-bounds form (reserve id) = record { changes = refl; inside = λ _. tt }
  perform-bounds form update_complete = record { changes = refl; inside = λ _. tt }

  reading_bounds : (r : Reading) → Bounds x c (answer_reading x c r)
  reading_bounds (rejected rejection) = record { changes = refl; inside = λ _. tt }
  reading_bounds (request form q) = perform-bounds form q

pub handle-bounds : HandleBounds
unfolding handle
handle-bounds x c d = reading_bounds x c (decode d)
