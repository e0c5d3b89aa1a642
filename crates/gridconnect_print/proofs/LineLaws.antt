-- Laws of a frame's line: how long it is, and texts that are printed one behind the other.
-- Assumes nothing.
use Prim.Native.Nat.{ℕ, ◌+◌, ◌*◌, ◌≤◌, ◌<◌}
use mathlib.Core.Path.{◌≡◌, ap, ◌∙◌}
use mathlib.Core.Bool.{true, false}
use mathlib.Core.List.{List, [], ◌∷◌, ◌++◌}
use native.Mathlib.Omega.{arith}
use lib.Dec.{leb}
use lib.ListN.{length, take, length-append}
use lib.Seq.{length-take-le}
use borrow.Author.Tests.{le-leb, lt-leb}
use Rattle.buffer.specs.Buffer.{placed, put_at}
use Rattle.buffer.proofs.Laws.{placed-fits, put_length, put_behind}
use Rattle.can_frame.specs.declared.Frame.{Frame}
use Rattle.hex_print.specs.Digits.{digits_of, hex_digits}
use Rattle.hex_print.proofs.DigitLaws.{length_digits}
use Rattle.gridconnect_print.specs.Line.{line_of, frame_text, end_of, Printed}

module _ (h : ℕ) (ds : List ℕ) where
  pub line-length : length (line_of h ds) ≡ 12 + length ds * 2
  unfolding line_of hex_digits
  line-length = let e = length-append (digits_of ds) (59 ∷ []) in let f = length_digits ds in omega arith

-- ---- printing

-- a piece behind one that was put before
pub placed-behind : (at n : ℕ) (xs ys buffer : List ℕ) {o : List ℕ} → o ≡ put_at at xs buffer → n ≡ at + length xs → n + length ys ≤ length buffer
    → placed n ys o ≡ put_at at (xs ++ ys) buffer
placed-behind at n xs ys buffer {o} e q h =
    let l : length o ≡ length buffer = ap length e ∙ put_length at xs buffer (omega arith) (omega arith) in
    placed-fits n ys o (omega arith) ∙ rw (e, q) (put_behind at xs ys buffer (omega arith))

module _ (at : ℕ) (text buffer : List ℕ) where
  pub not-printed : leb (at + length text) (length buffer) ≡ false → Printed at text buffer at buffer
  unfolding end_of placed
  not-printed e = record { end = rw e; out = rw e }

  pub printed : {o : List ℕ} (n : ℕ) → n ≡ length text → leb (at + n) (length buffer) ≡ true → o ≡ placed at text buffer → Printed at text buffer (at + n) o
  unfolding end_of
  printed n l e q = record { end = simp (← l, e); out = q }

-- ---- the text of a frame

module _ (f : Frame) where
  pub no_line : 8 < f.len → frame_text f ≡ []
  unfolding frame_text
  no_line h = rw (lt-leb f.len 8 h)

  module _ (few : f.len ≤ 8) where
    pub line-text : line_of f.header (take f.len f.bytes) ++ 10 ∷ [] ≡ frame_text f
    unfolding frame_text
    line-text = rw (le-leb f.len 8 few)

    pub text-length : length f.bytes ≡ 8 → 13 + f.len + f.len ≡ length (frame_text f)
    text-length full =
        let d : length (take f.len f.bytes) ≡ f.len = length-take-le f.len f.bytes (omega arith) in
        let l = line-length f.header (take f.len f.bytes) in
        rw (← line-text, length-append (line_of f.header (take f.len f.bytes)) (10 ∷ [])) (omega arith)
