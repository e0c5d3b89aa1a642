-- Document 01, "Refused because of the state": why the transport refuses a frame, and the code of each refusal.
use Rattle.std.specs.Prelude.{ℕ}
use Rattle.can_frame.specs.declared.TransportRefusal.{TransportRefusal}
use Rattle.can_frame.specs.declared.TransportRefusal.TheVariants.{TemporaryError, BufferUnavailable, OutOfOrder}

-- "over 72: transport refusal 0x2000"; "while eight others have one: 0x2020": of a state alone, since no book knows
-- another; "Any other: transport refusal 0x2040".
abbrev pub refusal_code : TransportRefusal → ℕ
refusal_code TemporaryError = 0x2000
refusal_code BufferUnavailable = 0x2020
refusal_code OutOfOrder = 0x2040
