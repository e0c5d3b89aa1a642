-- Document 01, "The demonstration board": a line of text read as a frame, `:X`, eight header digits, `N`, 0–16 data
-- digits in pairs, `;`.
use Rattle.std.specs.Prelude.{ℕ, ◌-◌, ◌^◌, ◌≤◌, ◌<◌, ◌≡◌, cond, Option, Some, None, ◌&&◌, List, length, take, drop, get_or}
use Rattle.can_frame.specs.Frame.{frame_of}
use Rattle.can_frame.specs.declared.Frame.{Frame}
use Rattle.gridconnect_parse.specs.Form.{formed}
use Rattle.gridconnect_print.specs.Line.{line_of}
use Rattle.hex_print.specs.Digits.{all_digits, number_in}
use Rattle.hex_read.specs.Reading.{bytes_in}

abbrev pub header_digits : List ℕ → List ℕ
header_digits line = take 8 (drop 2 line)

abbrev pub data_digits : List ℕ → List ℕ
data_digits line = take (length line - 1 - 11) (drop 11 line)

-- A line stands for a frame, or for none.
abbrev pub Parsed : Type 0
Parsed = Option Frame

-- What a line stands for: "any other line" stands for no frame.
unfoldable pub parse_of : List ℕ → Parsed
parse_of line =
    cond (formed line && (all_digits (header_digits line) && all_digits (data_digits line)))
    (Some (frame_of (number_in (header_digits line)) (bytes_in (data_digits line))))
    None

-- A frame that was printed is read back from its line.
abbrev pub ReadBack : Type 0
ReadBack =
    (header : ℕ) (payload : List ℕ) → header < 2 ^ 32 → length payload ≤ 8 → ((i : ℕ) → get_or payload i 0 < 256)
    → parse_of (line_of header payload) ≡ Some (frame_of header payload)
