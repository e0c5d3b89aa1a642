-- Laws of a call's numbers: those of a call have room in their bytes, and memory changed nowhere but in the range that they name.
-- Assumes nothing.
use Rattle.std.specs.Prelude.{Ok, Err}
use Rattle.call_error.specs.CallErrors.{OrError}
use Prim.Native.Nat.{ℕ, ◌≤◌, min}
use mathlib.Core.Path.{◌≡◌, refl, ap, subst, ◌∙◌}
use mathlib.Core.List.{List}
use native.Mathlib.Omega.{arith}
use Rattle.exec_store.specs.Storing.{OnlyWithin}
use Rattle.exec_spec.specs.Access.{Changes}
use Rattle.reply_answer.specs.Answers.{SmallAnswer}
use Rattle.reply_answer.specs.declared.Answer.{Answer}
use Rattle.reply_answer.specs.declared.Answer.TheVariants as answer
use Rattle.node_spec.specs.DatagramCall.{SmallHandled, HandledChanges}
use Rattle.node_spec.specs.FrameCall.{SmallFrame, FrameChanges}
use Rattle.node_spec.specs.declared.FrameAnswer.{FrameAnswer}
use Rattle.node_spec.specs.declared.FrameAnswer.TheVariants as frame
use Rattle.capi_numbers.specs.Numbers.{all_numbers, no_position, in_bytes, result_bytes}
use Rattle.capi_result.specs.Result.{answer_numbers, handled_numbers, frame_numbers}

-- ---- room

has_room : (kind error position flags code index n reply frames : ℕ) → index ≤ 65536 → n ≤ 65536 → reply ≤ 72 → frames ≤ 10
    → in_bytes (all_numbers kind error position flags code index n reply frames) ≡ all_numbers kind error position flags code index n reply frames
has_room kind error position flags code index n reply frames a b c d =
    let i : min index 0xFFFFFFFF ≡ index = omega arith in
    let j : min n 0xFFFFFFFF ≡ n = omega arith in
    let k : min reply 255 ≡ reply = omega arith in
    let l : min frames 255 ≡ frames = omega arith in
    rw (i, j, k, l)

answer-room : (a : Answer) (frames : ℕ) → SmallAnswer a → frames ≤ 10 → in_bytes (answer_numbers a frames) ≡ answer_numbers a frames
answer-room (answer.Rejected code) frames s h = has_room 4 0 no_position 0 code 0 0 0 frames (omega arith) (omega arith) (omega arith) h
answer-room (answer.Written index n) frames s h = has_room 5 0 no_position 0 0 index n 0 frames (omega (arith, s.0)) (omega (arith, s.1)) (omega arith) h
answer-room answer.UpdateComplete frames s h = has_room 7 0 no_position 0 0 0 0 0 frames (omega arith) (omega arith) (omega arith) h
answer-room (answer.Replied n) frames s h = has_room 6 0 no_position 0x80 0 0 0 n frames (omega arith) (omega arith) s h

handled-room : (r : OrError Answer) → SmallHandled r → in_bytes (handled_numbers r) ≡ handled_numbers r
handled-room (Err error) s = refl
handled-room (Ok a) s = answer-room a 0 s (omega arith)

frame-room : (r : OrError FrameAnswer) (frames : ℕ) → SmallFrame r → frames ≤ 10 → in_bytes (frame_numbers r frames) ≡ frame_numbers r frames
frame-room (Err error) frames s h = has_room 0 _ _ 0 0 0 0 0 frames (omega arith) (omega arith) (omega arith) h
frame-room (Ok frame.Ignored) frames s h = has_room 1 0 no_position 0 0 0 0 0 frames (omega arith) (omega arith) (omega arith) h
frame-room (Ok frame.Nothing) frames s h = has_room 2 0 no_position 0 0 0 0 0 frames (omega arith) (omega arith) (omega arith) h
frame-room (Ok (frame.TransportRefusal code)) frames s h = has_room 3 0 no_position 0 code 0 0 0 frames (omega arith) (omega arith) (omega arith) h
frame-room (Ok (frame.Answered a)) frames s h = answer-room a frames s h

-- ---- what changed

module _ (old new : List ℕ) where
  -- the same bytes differ in none
  none-changed : new ≡ old → OnlyWithin 0 0 old new
  none-changed e = rw e (record { size = refl; before = refl; behind = refl })

  answer-within : (a : Answer) (frames : ℕ) → Changes a old new → OnlyWithin (answer_numbers a frames).changed_at (answer_numbers a frames).changed_len old new
  answer-within (answer.Rejected code) frames e = none-changed e
  answer-within (answer.Written index n) frames e = e
  answer-within answer.UpdateComplete frames e = none-changed e
  answer-within (answer.Replied n) frames e = none-changed e

  handled-within : (r : OrError Answer) → HandledChanges r old new → OnlyWithin (handled_numbers r).changed_at (handled_numbers r).changed_len old new
  handled-within (Err error) e = none-changed e
  handled-within (Ok a) e = answer-within a 0 e

  frame-within : (r : OrError FrameAnswer) (frames : ℕ) → FrameChanges r old new → OnlyWithin (frame_numbers r frames).changed_at (frame_numbers r frames).changed_len old new
  frame-within (Err error) frames e = none-changed e
  frame-within (Ok frame.Ignored) frames e = none-changed e
  frame-within (Ok frame.Nothing) frames e = none-changed e
  frame-within (Ok (frame.TransportRefusal code)) frames e = none-changed e
  frame-within (Ok (frame.Answered a)) frames e = answer-within a frames e

-- ---- what the code gives is what its answer was proved to be

module _ {r h : OrError Answer} (same : r ≡ h) where
  pub handled-told : {bytes : List ℕ} → bytes ≡ result_bytes (in_bytes (handled_numbers r)) → SmallHandled r → bytes ≡ result_bytes (handled_numbers h)
  handled-told e small = e ∙ ap result_bytes (handled-room r small) ∙ ap (λ (x : OrError Answer). result_bytes (handled_numbers x)) same

  pub handled-range : (old new : List ℕ) → HandledChanges r old new → OnlyWithin (handled_numbers h).changed_at (handled_numbers h).changed_len old new
  handled-range old new q = subst (λ (x : OrError Answer). OnlyWithin (handled_numbers x).changed_at (handled_numbers x).changed_len old new) same (handled-within old new r q)

module _ {r a : OrError FrameAnswer} {n frames : ℕ} (same : r ≡ a) (count : n ≡ frames) where
  pub frame-told : {bytes : List ℕ} → bytes ≡ result_bytes (in_bytes (frame_numbers r n)) → SmallFrame r → n ≤ 10 → bytes ≡ result_bytes (frame_numbers a frames)
  frame-told e small few =
      e
      ∙ ap result_bytes (frame-room r n small few)
      ∙ ap (λ (x : OrError FrameAnswer). result_bytes (frame_numbers x n)) same
      ∙ ap (λ (k : ℕ). result_bytes (frame_numbers a k)) count

  pub frame-range : (old new : List ℕ) → FrameChanges r old new → OnlyWithin (frame_numbers a frames).changed_at (frame_numbers a frames).changed_len old new
  frame-range old new q = subst (λ (x : OrError FrameAnswer). OnlyWithin (frame_numbers x frames).changed_at (frame_numbers x frames).changed_len old new) same (frame-within old new r frames q)
