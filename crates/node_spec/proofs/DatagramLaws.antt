-- A whole datagram without an error of the caller, and the numbers of its answer.
-- Assumes nothing.
use Prim.Native.Nat.{ℕ, ◌≤◌}
use mathlib.Core.Path.{◌≡◌, refl, ap, ◌∙◌}
use mathlib.Core.List.{List}
use native.Mathlib.Omega.{arith}
use lib.Dec.{ltb}
use lib.ListN.{length}
use borrow.Author.Tests.{ltb-false}
use Rattle.buffer.proofs.Choice.{cond-not}
use Rattle.call_error.specs.CallErrors.{or_else, description_check, Checked}
use Rattle.call_error.specs.declared.CallError.{CallError}
use Rattle.call_error.proofs.Laws.{bad, or_else_passed, good-memory}
use Rattle.call_check.specs.Calls.{buffer_check, call_check}
use Rattle.reply_answer.specs.Answers.{Result, datagram_rejected, written, update_completed, received_ok_reply, answer_of, buffer_of, fitted, SmallAnswer}
use Rattle.reply_answer.specs.declared.Answer.{Answer}
use Rattle.exec_spec.specs.Access.{Changes}
use Rattle.exec_spec.specs.Handling.{Fixed, Contents, handle, Short, WrittenInside, Performs}
use Rattle.exec_spec.proofs.HandlingLaws.{whole, handle-bounds}
use Rattle.node_spec.specs.CallerErrors.{earlier_check, datagram_check}
use Rattle.node_spec.specs.DatagramCall.{datagram_call, EndsAs}
use Rattle.std.specs.Prelude.{Ok, Err}

-- ---- no error of the caller

module _ (x : Fixed) (c : Contents) (buffer : List ℕ) (g : earlier_check x c buffer ≡ Ok tt) where
  pub passed-buffer : 72 ≤ length buffer
  unfolding earlier_check
  passed-buffer =
      let e = (or_else_passed (description_check x.alias x.spaces (length x.flash) (length c.memory)) (buffer_check (length buffer)) g).1 in
      ltb-false (length buffer) 72 (cond-not (ltb (length buffer) 72) e (bad refl)).0

  pub passed-description : description_check x.alias x.spaces (length x.flash) (length c.memory) ≡ Ok tt
  unfolding earlier_check
  passed-description = (or_else_passed (description_check x.alias x.spaces (length x.flash) (length c.memory)) (buffer_check (length buffer)) g).0

  passed-memory : length c.memory ≤ 65536
  passed-memory = good-memory x.alias x.spaces (length x.flash) (length c.memory) passed-description

-- the check by the sizes of what is lent
pub by-sizes : (x : Fixed) (c : Contents) (buffer : List ℕ) {checked : Checked} → checked ≡ call_check x.alias x.spaces (length x.flash) (length c.memory) (length buffer)
    → checked ≡ earlier_check x c buffer
unfolding earlier_check
by-sizes x c buffer e = e

-- for a whole datagram nothing comes behind it
pub datagram_check_lem : (x : Fixed) (c : Contents) (buffer : List ℕ) → datagram_check x c buffer ≡ earlier_check x c buffer
unfolding datagram_check
datagram_check_lem x c buffer = go (earlier_check x c buffer)
  where
    go : (checked : Checked) → or_else checked (Ok tt) ≡ checked
    go (Ok u) = refl
    go (Err error) = refl

-- ---- the numbers of an answer

small-in : (r : Result) (m : ℕ) → Short r → WrittenInside m r → m ≤ 65536 → SmallAnswer (answer_of r)
small-in (datagram_rejected code) m s i h = tt
small-in (written index n) m s i h = (omega arith, s)
small-in update_completed m s i h = tt
small-in (received_ok_reply reply) m s i h = s

pub answer-small : (x : Fixed) (c : Contents) (d buffer : List ℕ) → earlier_check x c buffer ≡ Ok tt → Short (handle x c d).result →
    SmallAnswer (answer_of (handle x c d).result)
answer-small x c d buffer g s =
    small-in (handle x c d).result (length c.memory) s ((handle-bounds x c d).inside (passed-description x c buffer g)) (passed-memory x c buffer g)

-- ---- the call, by what the check finds

module _ (x : Fixed) (c : Contents) (d buffer : List ℕ) where
  pub call-refused : {error : CallError} → earlier_check x c buffer ≡ Err error → EndsAs (datagram_call x c d buffer) (Err error) buffer c
  unfolding datagram_call
  call-refused e = rw (datagram_check_lem x c buffer, e) (record { handled = refl; reply = refl; contents = refl })

  module _ (good : earlier_check x c buffer ≡ Ok tt) {r : Answer} {after : List ℕ} {left : Contents} (p : Performs (handle x c d) r buffer after left) where
    fits : fitted (handle x c d).result buffer ≡ (handle x c d).result
    fits = whole (handle x c d).result buffer p.short (passed-buffer x c buffer good)

    answered : r ≡ answer_of (handle x c d).result
    answered = p.answer.answer ∙ ap answer_of fits

    pub call-answered : EndsAs (datagram_call x c d buffer) (Ok r) after left
    unfolding datagram_call
    call-answered =
        rw (datagram_check_lem x c buffer, good)
        (record { handled = ap Ok answered; reply = p.answer.buffer ∙ ap (λ y. buffer_of y buffer) fits; contents = p.contents })

    pub call-small : SmallAnswer r
    call-small = rw answered (answer-small x c d buffer good p.short)

    pub call-changes : Changes r c.memory left.memory
    call-changes = rw (answered, p.contents) (handle-bounds x c d).changes
