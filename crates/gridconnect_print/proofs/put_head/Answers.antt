-- `put_head` meets its contract: the three pieces, put one behind the other.
-- Assumes nothing.
use Prim.Native.Nat.{ℕ, ◌+◌, ◌≤◌}
use mathlib.Core.Path.{◌≡◌, sym, ◌∙◌}
use mathlib.Core.List.{List, [], ◌∷◌, ◌++◌}
use native.Mathlib.Omega.{arith}
use lib.ListN.{length, length-append}
use Rattle.buffer.specs.Buffer.{placed, put_at}
use Rattle.buffer.proofs.Laws.{placed-fits}
use Rattle.hex_print.specs.Digits.{hex_digits}
use Rattle.hex_print.proofs.DigitLaws.{length-hex}
use Rattle.gridconnect_print.proofs.LineLaws.{placed-behind}
use Rattle.gridconnect_print.proofs.put_head.Goals as goal

composed : (header at : ℕ) (buffer : List ℕ) {o₁ o₂ o₃ : List ℕ} → at + 11 ≤ length buffer
    → o₁ ≡ placed at (58 ∷ 88 ∷ []) buffer → o₂ ≡ placed (at + 2) (hex_digits 8 header) o₁ → o₃ ≡ placed (at + 10) (78 ∷ []) o₂
    → o₃ ≡ placed at (58 ∷ 88 ∷ (hex_digits 8 header ++ 78 ∷ [])) buffer
composed header at buffer {o₁} {o₂} fits e₁ e₂ e₃ =
    let h : List ℕ = hex_digits 8 header in
    let lh : length h ≡ 8 = length-hex 8 header in
    let xs : List ℕ = 58 ∷ 88 ∷ h in
    let l : length (xs ++ 78 ∷ []) ≡ 11 = length-append xs (78 ∷ []) ∙ omega arith in
    let q₁ : o₁ ≡ put_at at (58 ∷ 88 ∷ []) buffer = e₁ ∙ placed-fits at (58 ∷ 88 ∷ []) buffer (omega arith) in
    let q₂ : o₂ ≡ put_at at xs buffer = e₂ ∙ placed-behind at (at + 2) (58 ∷ 88 ∷ []) h buffer q₁ (omega arith) (omega arith) in
    e₃ ∙ placed-behind at (at + 10) xs (78 ∷ []) buffer q₂ (omega arith) (omega arith) ∙ sym (placed-fits at (xs ++ 78 ∷ []) buffer (omega arith))

pub returns : goal.returns
returns c = composed _ _ _ (omega arith) c.put_pair.ensures c.put_number.ensures.out_value c.put_byte.ensures
