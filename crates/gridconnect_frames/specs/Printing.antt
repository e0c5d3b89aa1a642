-- Frames that lie in lent bytes, printed: a line for each.
use Rattle.std.specs.Prelude.{ℕ, zero, suc, ◌+◌, cond, List, [], ◌∷◌, ◌++◌, length}
use Rattle.can_frame.specs.declared.Frame.{Frame}
use Rattle.can_frame_bytes.specs.Layout.{frame_in_bytes}
use Rattle.gridconnect_print.specs.Line.{frame_text}
use Rattle.gridconnect_frames.specs.Room.{has_room}

-- n frames, one behind the other from an index on.
unfoldable pub frames_from : List ℕ → ℕ → ℕ → List Frame
frames_from bytes at zero = []
frames_from bytes at (suc n) = frame_in_bytes bytes at ∷ frames_from bytes (at + 16) n

-- The lines of frames.
unfoldable pub frames_text : List Frame → List ℕ
frames_text [] = []
frames_text (f ∷ fs) = frame_text f ++ frames_text fs

-- What is printed from an index of a buffer on: the text where there is room for ten lines of the longest, and else
-- nothing.
abbrev pub when_room : ℕ → List ℕ → List ℕ → List ℕ
when_room at buffer text = cond (has_room at (length buffer)) text []
