-- Document 01, "Joining frames", first paragraph: the header, and which frames are ignored.
use Rattle.std.specs.Prelude.{ℕ, ◌+◌, ◌-◌, ◌*◌, ◌/◌, ◌%◌, ◌^◌, Bool, cond, not, ◌&&◌, List, ◌++◌, leb, ltb, eqb, length, replicate}
use Rattle.can_frame.specs.declared.Frame.{Frame}
use Rattle.can_frame.specs.declared.Role.{Role}
use Rattle.can_frame.specs.declared.Role.TheVariants.{Ignored, Single, First, Middle, Last}

-- A frame as it comes from the bus: its header and its data, of any length.
pub record CanFrame : Type 0 where
  pub header : ℕ
  pub payload : List ℕ

abbrev pub can_frame : ℕ → List ℕ → CanFrame
can_frame h d = record { header = h; payload = d }

-- "12 bits destination alias, 12 bits source alias"
abbrev pub destination_of : ℕ → ℕ
destination_of header = (header / 2 ^ 12) % 2 ^ 12

abbrev pub source_of : ℕ → ℕ
source_of header = header % 2 ^ 12

-- "A header's top five of 29 bits are 0x1A Single, 0x1B First, 0x1C Middle, 0x1D Last"; "any other header" is ignored
unfoldable pub kind_of_frame : ℕ → Role
kind_of_frame top =
    cond (eqb top 0x1A) Single
    (cond (eqb top 0x1B) First
    (cond (eqb top 0x1C) Middle
    (cond (eqb top 0x1D) Last Ignored)))

-- Not ignored: data of at most 8 bytes, a header of at most 29 bits, the board as destination, and not as source.
unfoldable pub addressed : ℕ → ℕ → ℕ → Bool
addressed alias header size =
    leb size 8 && (ltb header (2 ^ 29) && (eqb (destination_of header) alias && not (eqb (source_of header) alias)))

-- What a frame with `size` bytes of data is to the board with that alias.
unfoldable pub role_of : ℕ → ℕ → ℕ → Role
role_of alias header size = cond (addressed alias header size) (kind_of_frame (header / 2 ^ 24)) Ignored

-- A header put together again.
abbrev pub header_of : ℕ → ℕ → ℕ → ℕ
header_of kind destination source = kind * 2 ^ 24 + destination * 2 ^ 12 + source

-- A frame of at most 8 bytes: behind its data stand zeros.
unfoldable pub frame_of : ℕ → List ℕ → Frame
frame_of header xs = record { header = header; len = length xs; bytes = xs ++ replicate (8 - length xs) 0 }
