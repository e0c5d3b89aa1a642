-- `handle_frame` meets its contract, and demand 3 holds of it.
-- Assumes nothing.
use mathlib.Core.Path.{refl, sym, ◌∙◌}
use borrow.Author.Rules.{rules}
use Rattle.can_frame.specs.Frame.{can_frame}
use Rattle.std.proofs.lemmas.Result.{err_from_is_err_and}
use Rattle.rx_place_spec.specs.PlaceBytes.{state_in}
use Rattle.rx_place_spec.proofs.ByteLaws.{renewed-same}
use Rattle.exec_spec.specs.LentBoard.{fixed_in, contents_in}
use Rattle.node_spec.proofs.DatagramLaws.{by-sizes, passed-buffer}
use Rattle.node_spec.specs.FrameCall.{frame_call}
use Rattle.rx_join_spec.proofs.CheckLaws.{ends-inside}
use Rattle.node_spec.proofs.CallLaws.{call-refused, earlier_fails, node_theorems}
use Rattle.node_call.proofs.FrameLaws.{call-joined, call-keeps, call-small, call-changes}
use Rattle.node_call.proofs.handle_frame.Goals as goal

pub returns-in_err-check_call-clause-ends : goal.returns-in_err-check_call-clause-ends
returns-in_err-check_call-clause-ends c =
    let a = c.args in
    let x = fixed_in a.board.now in
    let w = contents_in a.memory.now a.registers.now in
    let st = state_in a.places.now a.pool.now in
    let g = sym (by-sizes x w a.reply.now c.check_call.ensures.first) ∙ c.in_err-check_call.was in
    let e = call-refused x a.reply.now a.tick st w (can_frame a.header a.payload.now) (earlier_fails x a.reply.now st w g) in
    let p = err_from_is_err_and c.from_residual.result c.from_residual.ensures.1 in
    rw (p.1, p.2)
    (record {
      answers = rw e (record { answer = refl; reply = refl; contents = refl; short = tt });
      keeps = rw e (record { places = refl; renewal = renewed-same a.places.now; pool = refl });
      small = tt;
      changes = refl;
    })

pub returns-in_err-check_call-clause-theorems : goal.returns-in_err-check_call-clause-theorems
returns-in_err-check_call-clause-theorems c = node_theorems _

pub returns-in_err-outcome-clause-ends : goal.returns-in_err-outcome-clause-ends
returns-in_err-outcome-clause-ends c =
    let a = c.args in
    let x = fixed_in a.board.now in
    let w = contents_in a.memory.now a.registers.now in
    let st = state_in a.places.now a.pool.now in
    let f = can_frame a.header a.payload.now in
    let g = sym (by-sizes x w a.reply.now c.check_call.ensures.first) ∙ c.in_ok-check_call.was in
    let l = c.check_later-later.ensures x w in
    let n = rw c.in_err-outcome.was at c.join.ensures.ends in
    let p = err_from_is_err_and c.from_residual-in_err-outcome.result c.from_residual-in_err-outcome.ensures.1 in
    rw (p.1, p.2)
    (record {
      answers = rw (call-joined x a.reply.now a.tick a.places.now a.pool.now w f g l n) (record { answer = refl; reply = refl; contents = refl; short = tt });
      keeps = call-keeps x a.reply.now a.tick a.places.now a.pool.now w f g l n;
      small = tt;
      changes = refl;
    })

pub returns-in_err-outcome-clause-theorems : goal.returns-in_err-outcome-clause-theorems
returns-in_err-outcome-clause-theorems c = node_theorems _

pub answer_outcome-requires : goal.answer_outcome-requires
answer_outcome-requires c =
    let a = c.args in
    let x = fixed_in a.board.now in
    let w = contents_in a.memory.now a.registers.now in
    let g = sym (by-sizes x w a.reply.now c.check_call.ensures.first) ∙ c.in_ok-check_call.was in
    (passed-buffer x w a.reply.now g, search rules, ends-inside (rw c.in_ok-outcome.was at c.join.ensures.ends))

pub returns-clause-ends : goal.returns-clause-ends
returns-clause-ends c =
    let a = c.args in
    let x = fixed_in a.board.now in
    let w = contents_in a.memory.now a.registers.now in
    let st = state_in a.places.now a.pool.now in
    let f = can_frame a.header a.payload.now in
    let g = sym (by-sizes x w a.reply.now c.check_call.ensures.first) ∙ c.in_ok-check_call.was in
    let l = c.check_later-later.ensures x w in
    let n = rw c.in_ok-outcome.was at c.join.ensures.ends in
    let call = frame_call x a.reply.now a.tick st w f in
    let p = c.answer_outcome.ensures call.state in
    record {
      answers = rw (call-joined x a.reply.now a.tick a.places.now a.pool.now w f g l n) p;
      keeps = call-keeps x a.reply.now a.tick a.places.now a.pool.now w f g l n;
      small = call-small x a.reply.now a.tick a.places.now a.pool.now w f g l n p;
      changes = call-changes x a.reply.now a.tick a.places.now a.pool.now w f g l n p;
    }

pub returns-clause-theorems : goal.returns-clause-theorems
returns-clause-theorems c = node_theorems _
