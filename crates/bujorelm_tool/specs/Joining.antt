-- What comes of joining a frame of a reply, as numbers for a caller in C, in lent bytes.
use Rattle.std.specs.Prelude.{ℕ, cond, List, ◌++◌, eqb, Ok, Err}
use Rattle.buffer.specs.LittleEndian.{least_first, two_least_first, eight_least_first, zeros, number_at}
use Rattle.can_frame.specs.Refusal.{refusal_code}
use Rattle.can_frame.specs.declared.TransportRefusal.{TransportRefusal}
use Rattle.can_frame.specs.declared.TransportRefusal.TheVariants.{TemporaryError, BufferUnavailable, OutOfOrder}
use Rattle.call_error.specs.CallErrors.{OrError}
use Rattle.call_error.specs.declared.CallError.TheVariants.{B7BadReceptionState}
use Rattle.rx_join_spec.specs.declared.Outcome.{Outcome}
use Rattle.rx_join_spec.specs.declared.Outcome.TheVariants as outcome

-- 24 bytes: kind at 0, code at 4, start at 8, end at 16; least significant byte first, and zero where no field lies.
abbrev pub joined_bytes : ℕ → ℕ → ℕ → ℕ → List ℕ
joined_bytes kind code start end =
    least_first kind ++ two_least_first code ++ zeros 2 ++ eight_least_first start ++ eight_least_first end

-- The number of each case, and its values. A call is refused because of B7 alone: see `outcome_is`.
abbrev pub joined_of : OrError Outcome → List ℕ
joined_of (Err error) = joined_bytes 0 0 0 0
joined_of (Ok outcome.Ignored) = joined_bytes 1 0 0 0
joined_of (Ok outcome.NoAnswer) = joined_bytes 2 0 0 0
joined_of (Ok (outcome.TransportRefusal refusal)) = joined_bytes 3 (refusal_code refusal) 0 0
joined_of (Ok outcome.InFrame) = joined_bytes 4 0 0 0
joined_of (Ok (outcome.InPool from end)) = joined_bytes 5 0 from end

-- The refusal that a code stands for. There are three, and `joined_of` gives no other code: any other number is read as
-- the last of them.
abbrev pub refusal_of : ℕ → TransportRefusal
refusal_of code = cond (eqb code 0x2000) TemporaryError (cond (eqb code 0x2020) BufferUnavailable OutOfOrder)

-- The case that the bytes stand for.
abbrev pub outcome_is : List ℕ → OrError Outcome
outcome_is bytes =
    cond (eqb (number_at 0 4 bytes) 1) (Ok outcome.Ignored)
    (cond (eqb (number_at 0 4 bytes) 2) (Ok outcome.NoAnswer)
    (cond (eqb (number_at 0 4 bytes) 3) (Ok (outcome.TransportRefusal (refusal_of (number_at 4 2 bytes))))
    (cond (eqb (number_at 0 4 bytes) 4) (Ok outcome.InFrame)
    (cond (eqb (number_at 0 4 bytes) 5) (Ok (outcome.InPool (number_at 8 8 bytes) (number_at 16 8 bytes)))
    (Err B7BadReceptionState)))))
