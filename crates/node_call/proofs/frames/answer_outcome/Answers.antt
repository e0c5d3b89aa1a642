-- `answer_outcome` meets its contract: each outcome by its own answer.
-- Assumes nothing.
use mathlib.Core.Path.{refl}
use native.Mathlib.Omega.{arith}
use Rattle.node_call.proofs.FrameLaws.{inside-at}
use Rattle.node_call.proofs.frames.answer_outcome.Goals as goal

pub returns-in-Ignored : goal.returns-in-Ignored
returns-in-Ignored c = rw c.in-Ignored.is (λ st. record { answer = refl; reply = refl; contents = refl; short = tt })

pub returns-in-NoAnswer : goal.returns-in-NoAnswer
returns-in-NoAnswer c = rw c.in-NoAnswer.is (λ st. record { answer = refl; reply = refl; contents = refl; short = tt })

pub returns-in-TransportRefusal : goal.returns-in-TransportRefusal
returns-in-TransportRefusal c = rw (c.in-TransportRefusal.is, c.code.ensures) (λ st. record { answer = refl; reply = refl; contents = refl; short = tt })

pub returns-in-InFrame : goal.returns-in-InFrame
returns-in-InFrame c = rw c.in-InFrame.is c.answer_datagram.ensures

pub slice_bounds-answer_datagram-start : goal.slice_bounds-answer_datagram-start
slice_bounds-answer_datagram-start c =
    let i = inside-at c.args.outcome _ _ c.in-InPool.is c.requires.2 in
    omega arith

pub slice_bounds-answer_datagram-end : goal.slice_bounds-answer_datagram-end
slice_bounds-answer_datagram-end c =
    let i = inside-at c.args.outcome _ _ c.in-InPool.is c.requires.2 in
    omega (arith, c.requires.1)

pub returns-in-InPool : goal.returns-in-InPool
returns-in-InPool c = rw c.in-InPool.is c.answer_datagram-in-InPool.ensures
