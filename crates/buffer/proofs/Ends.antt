-- The part of a list up to its end.
-- Assumes nothing.
use Prim.Native.Nat.{ℕ, ◌-◌, ◌≤◌}
use mathlib.Core.Path.{◌≡◌, sym, ◌∙◌}
use mathlib.Core.List.{List}
use native.Mathlib.Omega.{arith}
use lib.ListN.{length, take, drop, length-drop, drop_of_length-le}
use lib.Seq.{take_all}

module _ {A : Type 0} (l : List A) (h : ℕ) where
  -- a part that reaches to the end
  pub part_rest : take (length l - h) (drop h l) ≡ drop h l
  part_rest = take_all (length l - h) (drop h l) (rw length-drop (omega arith))

  -- nothing is left past the end
  pub part_past : length l ≤ h → take (length l - length l) (drop (length l) l) ≡ drop h l
  part_past k = take_all (length l - length l) (drop (length l) l) (rw length-drop (omega arith))
      ∙ drop_of_length-le l {i = length l} (omega arith) ∙ sym (drop_of_length-le l {i = h} k)
