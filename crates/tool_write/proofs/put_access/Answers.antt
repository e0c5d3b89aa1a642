-- `put_access` meets its contract: a buffer of 72 bytes has room for the first bytes and 64 more.
-- Assumes nothing.
use mathlib.Core.Path.{◌≡◌, ap}
use mathlib.Core.Bool.{true}
use native.Mathlib.Omega.{arith}
use lib.Dec.{leb}
use lib.ListN.{length}
use borrow.Author.Tests.{leb-true}
use Rattle.std.specs.Prelude.{Ok}
use Rattle.tool_write.proofs.WriterLaws.{access-length, access-put}
use Rattle.tool_write.proofs.put_access.Goals as goal

pub returns-clause-answer : goal.returns-clause-answer
returns-clause-answer c =
    let a = c.args in
    let room : leb 72 (length a.buffer.now) ≡ true = grind arith in
    rw room (ap Ok (access-length a.command a.space a.address a.content.now c.form_for-form.ensures c.head_length.ensures))

pub returns-clause-buffer : goal.returns-clause-buffer
returns-clause-buffer c =
    let a = c.args in
    let room : leb 72 (length a.buffer.now) ≡ true = grind arith in
    rw room (access-put a.command a.space a.address a.content.now c.form_for-form.ensures (leb-true 72 (length a.buffer.now) room) c.requires c.send.ensures)
