-- How frames lie in lent bytes, 16 bytes for each: the struct `Frame` as a processor keeps it that stores the least
-- significant byte first.
use Rattle.std.specs.Prelude.{ℕ, ◌+◌, ◌*◌, ◌≡◌, cond, List, [], ◌∷◌, ◌++◌, leb, length, get_or, replicate}
use Rattle.buffer.specs.Buffer.{placed}
use Rattle.buffer.specs.BigEndian.{number_of}
use Rattle.buffer.specs.LittleEndian.{least_first}
use Rattle.can_frame.specs.declared.Frame.{Frame}
use Rattle.can_frame.specs.Frame.{frame_of}

-- A frame: its header; the number of its data bytes, 0 to 8 in the first of four bytes; its eight bytes, the data and
-- zeros behind them.
unfoldable pub frame_bytes : Frame → List ℕ
frame_bytes f = least_first f.header ++ least_first f.len ++ f.bytes

abbrev pub frame_with : ℕ → ℕ → List ℕ → Frame
frame_with header len bytes = record { header = header; len = len; bytes = bytes }

-- The frame in 16 bytes from an index on: its header and the number of its data bytes, each least significant byte
-- first, and its eight bytes. A caller may put any number there, also one over 8.
unfoldable pub frame_in_bytes : List ℕ → ℕ → Frame
frame_in_bytes bytes at = record {
  header = number_of (get_or bytes (at + 3) 0) (get_or bytes (at + 2) 0) (get_or bytes (at + 1) 0) (get_or bytes at 0);
  len = number_of (get_or bytes (at + 7) 0) (get_or bytes (at + 6) 0) (get_or bytes (at + 5) 0) (get_or bytes (at + 4) 0);
  bytes = get_or bytes (at + 8) 0 ∷ get_or bytes (at + 9) 0 ∷ get_or bytes (at + 10) 0 ∷ get_or bytes (at + 11) 0
      ∷ get_or bytes (at + 12) 0 ∷ get_or bytes (at + 13) 0 ∷ get_or bytes (at + 14) 0 ∷ get_or bytes (at + 15) 0 ∷ [];
}

-- The same, and a frame without data and with header 0 where the 16 bytes are not all there.
abbrev pub whole_frame : List ℕ → ℕ → Frame
whole_frame bytes at = cond (leb (at + 16) (length bytes)) (frame_in_bytes bytes at) (frame_with 0 0 (replicate 8 0))

-- A frame is found again where its bytes lie.
abbrev pub FrameAgain : Type 0
FrameAgain =
    (front : List ℕ) (f : Frame) (rest : List ℕ) → length f.bytes ≡ 8
    → frame_in_bytes (front ++ (frame_bytes f ++ rest)) (length front) ≡ f

-- Frames, one behind the other.
abbrev pub frames_bytes : List Frame → List ℕ
frames_bytes [] = []
frames_bytes (f ∷ fs) = frame_bytes f ++ frames_bytes fs

-- Lent bytes in which frame n has become the one with that header and the data xs. They stay as they were where they
-- have no frame n, and where xs are more than the 8 bytes that a frame carries.
unfoldable pub frame_placed : ℕ → ℕ → List ℕ → List ℕ → List ℕ
frame_placed n header xs bytes = cond (leb (length xs) 8) (placed (16 * n) (frame_bytes (frame_of header xs)) bytes) bytes
