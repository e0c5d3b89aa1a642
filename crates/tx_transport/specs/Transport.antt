-- Document 01, "The demonstration board": the frames of the transport replies Received OK and Rejected.
use Rattle.std.specs.Prelude.{ℕ, ◌+◌, cond, List, [], ◌∷◌, ◌++◌}
use Rattle.buffer.specs.BigEndian.{two_bytes}
use Rattle.can_frame.specs.declared.Frame.{Frame}
use Rattle.can_frame.specs.Frame.{frame_of}
use Rattle.tx_cut_spec.specs.Cutting.{aliases}

-- The board's alias is the low 12 bits of the header, and the tool's is in the data. An alias over 4,095 fits neither:
-- no frame is made. That is no case of B9, which is "in cutting only", and gives no number.
abbrev pub transport_reply : ℕ → ℕ → Frame → List Frame
transport_reply board tool f = cond (aliases board tool) (f ∷ []) []

-- "transport data are the tool's alias in four digits, then flags or code": `:X19A2822BN012300;` is Received OK 0x00
-- from the board 22B to the tool 123.
unfoldable pub received_ok : ℕ → ℕ → ℕ → List Frame
received_ok board tool flags = transport_reply board tool (frame_of (0x19A28000 + board) (two_bytes tool ++ flags ∷ []))

-- Rejected, with two bytes of code.
unfoldable pub rejected_with : ℕ → ℕ → ℕ → List Frame
rejected_with board tool code = transport_reply board tool (frame_of (0x19A48000 + board) (two_bytes tool ++ two_bytes code))
