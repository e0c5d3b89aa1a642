-- Laws of a command with an address, which is put into the buffer as a reply is.
-- Assumes nothing.
use Prim.Native.Nat.{ℕ, ◌+◌, ◌≤◌}
use mathlib.Core.Path.{◌≡◌, sym, ap}
use mathlib.Core.List.{List, ◌++◌}
use native.Mathlib.Omega.{arith}
use lib.ListN.{length}
use borrow.Author.Tests.{le-leb}
use Rattle.buffer.specs.Buffer.{over}
use Rattle.cmd_fields.specs.Commands.{head_bytes, head_length}
use Rattle.cmd_fields.specs.declared.Form.{Form}
use Rattle.reply_answer.specs.Answers.{received_ok_reply, Agrees}
use Rattle.reply_answer.specs.declared.Answer.{Answer}
use Rattle.tool_write_spec.specs.Writing.{form_for, opening}
use Rattle.tool_write_spec.proofs.WritingLaws.{head_small, said}

module _ (command s a : ℕ) (content : List ℕ) {form : Form} (f : form ≡ form_for s) where
  pub access-length : {n : ℕ} → n ≡ head_length form → n + length content ≡ length (opening command s a ++ content)
  access-length e = rw ((said command s a content).size, ← f, ← e)

  -- a buffer of 72 bytes has room for the head and 64 bytes
  pub access-put : {r : Answer} {before after : List ℕ} → 72 ≤ length before → length content ≤ 64 →
      Agrees (received_ok_reply (head_bytes command form s a ++ content)) r before after → after ≡ over (opening command s a ++ content) before
  access-put {before = before} room small agrees =
      let l = access-length (ap head_length (sym f)) in
      rw (f, le-leb (length (opening command s a ++ content)) (length before) (omega (arith, head_small s))) at agrees.buffer
