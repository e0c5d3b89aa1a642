-- Document 01, "The demonstration board": a frame as a line of text, `:X`, eight header digits, `N`, 0–16 data digits
-- in pairs, `;`.
use Rattle.std.specs.Prelude.{ℕ, ◌+◌, ◌≡◌, cond, List, [], ◌∷◌, ◌++◌, leb, length, take}
use Rattle.buffer.specs.Buffer.{placed}
use Rattle.can_frame.specs.declared.Frame.{Frame}
use Rattle.hex_print.specs.Digits.{digits_of, hex_digits}

-- The line of a frame, without the newline behind it.
unfoldable pub line_of : ℕ → List ℕ → List ℕ
line_of header payload = 58 ∷ 88 ∷ (hex_digits 8 header ++ 78 ∷ (digits_of payload ++ 59 ∷ []))

-- What is printed for a frame: its line and a newline; nothing for one of more than 8 bytes.
unfoldable pub frame_text : Frame → List ℕ
frame_text f = cond (leb f.len 8) (line_of f.header (take f.len f.bytes) ++ 10 ∷ []) []

-- "Any other line prints `?`."
abbrev pub unknown_text : List ℕ
unknown_text = 63 ∷ 10 ∷ []

-- The index past a text that is printed from `at` on, and `at` where it does not fit.
unfoldable pub end_of : ℕ → List ℕ → List ℕ → ℕ
end_of at text buffer = cond (leb (at + length text) (length buffer)) (at + length text) at

-- A text printed into a buffer from `at` on: the answer and the buffer afterwards.
pub record Printed (at : ℕ) (text buffer : List ℕ) (answer : ℕ) (after : List ℕ) : Type 0 where
  pub end : answer ≡ end_of at text buffer
  pub out : after ≡ placed at text buffer
