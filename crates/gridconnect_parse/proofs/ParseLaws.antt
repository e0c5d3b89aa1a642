-- Laws of lines that are read: what a line that is no good one is, and a printed frame read back.
-- Assumes nothing.
use Prim.Native.Nat.{ℕ, ◌-◌, ◌%◌, ◌≤◌, ◌<◌}
use mathlib.Core.Path.{◌≡◌, refl, sym, ◌∙◌}
use mathlib.Core.Bool.{true, false, ◌&&◌}
use mathlib.Core.List.{List, [], ◌∷◌, ◌++◌}
use native.Mathlib.Omega.{arith}
use lib.Dec.{eqb}
use lib.ListN.{length, get_or, drop, length-drop}
use lib.Seq.{take_at, get_or_at, length-take-le}
use borrow.Author.Tests.{le-leb, lt-leb, eq-eqb}
use Rattle.can_frame.specs.Frame.{frame_of}
use Rattle.hex_print.specs.Digits.{digits_of, hex_digits, all_digits, number_in}
use Rattle.hex_print.proofs.DigitLaws.{length_digits}
use Rattle.hex_print.proofs.PlaceLaws.{all-hex, number-back}
use Rattle.hex_read.specs.declared.HexBytes.{HexBytes}
use Rattle.std.specs.Prelude.{Some, None}
use Rattle.hex_read.specs.Reading.{read_of, read_number}
use Rattle.hex_read.proofs.BackLaws.{all_digits_lem, bytes_back}
use Rattle.hex_read.proofs.ReadLaws.{chosen, not_chosen, by_digits, by-pairs}
use Rattle.gridconnect_parse.specs.Form.{formed}
use Rattle.gridconnect_parse.proofs.FormLaws.{formed-length}
use Rattle.gridconnect_print.specs.Line.{line_of}
use Rattle.gridconnect_print.proofs.LineLaws.{line-length}
use Rattle.gridconnect_parse.specs.Parsing.{header_digits, data_digits, parse_of, ReadBack}

pub too_long : (s : List ℕ) → 28 < length s → parse_of s ≡ None
unfolding parse_of formed
too_long s h = let k : 12 ≤ length s = omega arith in simp (le-leb 12 (length s) k, lt-leb (length s) 28 h)

-- ---- a line by its parts

module _ (s : List ℕ) where
  pub not-formed : formed s ≡ false → None ≡ parse_of s
  unfolding parse_of
  not-formed e = rw e

  module _ (e : formed s ≡ true) where
    header-length : length (header_digits s) ≡ 8
    header-length = let h = formed-length s e in length-take-le 8 (drop 2 s) (let l = length-drop 2 s in omega arith)

    data-length : length (data_digits s) ≡ length s - 1 - 11
    data-length = let h = formed-length s e in length-take-le (length s - 1 - 11) (drop 11 s) (let l = length-drop 11 s in omega arith)

    few : length (data_digits s) ≤ 16
    few = let h = formed-length s e in let l = data-length in omega arith

    even : length (data_digits s) % 2 ≡ 0
    even = let h = formed-length s e in let l = data-length in omega arith

    pub no_header : read_number (header_digits s) ≡ None → None ≡ parse_of s
    unfolding parse_of
    no_header n =
        let f : all_digits (header_digits s) ≡ false = not_chosen (all_digits (header_digits s)) _ (sym (by_digits (header_digits s) header-length) ∙ n) in
        simp (e, f)

    module _ {h : ℕ} (eh : read_number (header_digits s) ≡ Some h) where
      header-is : (all_digits (header_digits s) ≡ true) × (number_in (header_digits s) ≡ h)
      header-is = chosen (all_digits (header_digits s)) (sym (by_digits (header_digits s) header-length) ∙ eh)

      pub no_data : read_of (data_digits s) ≡ None → None ≡ parse_of s
      unfolding parse_of
      no_data n =
          let d : all_digits (data_digits s) ≡ false = not_chosen (all_digits (data_digits s)) _ (sym (by-pairs (data_digits s) few even) ∙ n) in
          simp (e, header-is.0, d)

      pub a_line : {b : HexBytes} → read_of (data_digits s) ≡ Some b → Some (record { header = h; len = b.len; bytes = b.bytes }) ≡ parse_of s
      unfolding parse_of frame_of
      a_line eb =
          let d = chosen (all_digits (data_digits s)) (sym (by-pairs (data_digits s) few even) ∙ eb) in
          simp (e, header-is.0, d.0, header-is.1, ← d.1)

-- ---- printed and read back

module _ (h : ℕ) (ds : List ℕ) where
  header_is : header_digits (line_of h ds) ≡ hex_digits 8 h
  unfolding line_of hex_digits
  header_is = refl

  data_is : data_digits (line_of h ds) ≡ digits_of ds
  unfolding line_of hex_digits
  data_is = let l = line-length h ds in let f = length_digits ds in take_at (digits_of ds) (59 ∷ []) (length (line_of h ds) - 1 - 11) (omega arith)

  last-is : get_or (line_of h ds) (length (line_of h ds) - 1) 0 ≡ 59
  unfolding line_of hex_digits
  last-is = let l = line-length h ds in let f = length_digits ds in get_or_at (58 ∷ 88 ∷ (hex_digits 8 h ++ 78 ∷ digits_of ds)) 59 [] 0 (length (line_of h ds) - 1) (omega arith)

  first_marks : (eqb (get_or (line_of h ds) 0 0) 58 && (eqb (get_or (line_of h ds) 1 0) 88 && (eqb (get_or (line_of h ds) 10 0) 78 && true))) ≡ true
  unfolding line_of hex_digits
  first_marks = refl

  is-formed : length ds ≤ 8 → formed (line_of h ds) ≡ true
  unfolding formed
  is-formed few =
      let l = line-length h ds in
      let a : 12 ≤ length (line_of h ds) = omega arith in
      let b : length (line_of h ds) ≤ 28 = omega arith in
      let e : length (line_of h ds) % 2 ≡ 0 = omega arith in
      simp (le-leb 12 (length (line_of h ds)) a, le-leb (length (line_of h ds)) 28 b, eq-eqb (length (line_of h ds) % 2) 0 e, last-is) first_marks

pub read_back : ReadBack
unfolding parse_of
read_back h ds hb few bytes =
    simp (is-formed h ds few, header_is h ds, data_is h ds, all-hex 8 h, all_digits_lem ds, number-back 8 h hb, bytes_back ds bytes)
