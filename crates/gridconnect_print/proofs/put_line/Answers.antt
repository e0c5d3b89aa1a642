-- `put_line` meets its contract: the three pieces, put one behind the other, are the frame's line and a newline.
-- Assumes nothing.
use Prim.Native.Nat.{ℕ, ◌+◌, ◌*◌, ◌≤◌}
use mathlib.Core.Path.{◌≡◌, sym, ap, ◌∙◌}
use mathlib.Core.List.{List, [], ◌∷◌, ◌++◌, append_assoc}
use native.Mathlib.Omega.{arith}
use borrow.Author.Rules.{rules}
use lib.ListN.{length, take, length-append}
use lib.Seq.{length-take-le}
use Rattle.buffer.specs.Buffer.{placed, put_at}
use Rattle.buffer.proofs.Laws.{placed-fits}
use Rattle.hex_print.specs.Digits.{digits_of, hex_digits}
use Rattle.hex_print.proofs.DigitLaws.{length_digits, length-hex}
use Rattle.gridconnect_print.specs.Line.{line_of}
use Rattle.gridconnect_print.proofs.LineLaws.{line-length, line-text, placed-behind}
use Rattle.gridconnect_print.proofs.put_line.Goals as goal

-- the pieces in their order
composed : (header : ℕ) (payload : List ℕ) (n at : ℕ) (buffer : List ℕ) {o₁ o₂ o₃ : List ℕ} → length payload ≡ n → at + (13 + n * 2) ≤ length buffer
    → o₁ ≡ placed at (58 ∷ 88 ∷ (hex_digits 8 header ++ 78 ∷ [])) buffer → o₂ ≡ placed (at + 11) (digits_of payload) o₁
    → o₃ ≡ placed (at + (11 + n + n)) (59 ∷ 10 ∷ []) o₂ → o₃ ≡ placed at (line_of header payload ++ 10 ∷ []) buffer
unfolding line_of
composed header payload n at buffer {o₁} {o₂} size fits e₁ e₂ e₃ =
    let h : List ℕ = 58 ∷ 88 ∷ hex_digits 8 header in
    let d : List ℕ = digits_of payload in
    let xs : List ℕ = h ++ 78 ∷ [] in
    let lx : length xs ≡ 11 = length-append h (78 ∷ []) ∙ omega (arith, length-hex 8 header) in
    let ld : length d ≡ n * 2 = length_digits payload ∙ ap (λ (k : ℕ). k * 2) size in
    let l : length (xs ++ d) ≡ 11 + n * 2 = length-append xs d ∙ omega arith in
    let q₁ : o₁ ≡ put_at at xs buffer = e₁ ∙ placed-fits at xs buffer (omega arith) in
    let q₂ : o₂ ≡ put_at at (xs ++ d) buffer = e₂ ∙ placed-behind at (at + 11) xs d buffer q₁ (omega arith) (omega arith) in
    let r : xs ++ d ++ 59 ∷ 10 ∷ [] ≡ line_of header payload ++ 10 ∷ [] = simp append_assoc in
    let lr : length (line_of header payload ++ 10 ∷ []) ≡ 13 + n * 2 = length-append (line_of header payload) (10 ∷ []) ∙ omega (arith, line-length header payload) in
    e₃ ∙ placed-behind at (at + (11 + n + n)) (xs ++ d) (59 ∷ 10 ∷ []) buffer q₂ (omega arith) (omega arith)
    ∙ ap (λ (x : List ℕ). put_at at x buffer) r
    ∙ sym (placed-fits at (line_of header payload ++ 10 ∷ []) buffer (omega arith))

pub returns : goal.returns
returns c =
    let f = c.args.frame in
    let full : length f.bytes ≡ 8 = search rules in
    let size : length (take f.len f.bytes) ≡ f.len = length-take-le f.len f.bytes (omega arith) in
    composed _ _ _ _ _ size c.requires.1 c.put_head.ensures c.put_digits.ensures c.put_pair.ensures
    ∙ rw (line-text f c.requires.0)
