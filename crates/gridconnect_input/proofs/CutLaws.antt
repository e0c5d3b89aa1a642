-- Laws of a line that is cut off: what is cut off plays no part in what the line stands for.
-- Assumes nothing.
use Prim.Native.Nat.{ℕ, zero, suc, ◌+◌, ◌-◌, ◌≤◌, ◌<◌, min}
use mathlib.Core.Path.{◌≡◌, refl, sym, ap, ◌∙◌}
use mathlib.Core.Bool.{Bool, true, false}
use mathlib.Core.List.{List, [], ◌∷◌, ◌++◌}
use native.Mathlib.Nat.{zero-min, suc-min-suc}
use native.Mathlib.Omega.{arith}
use lib.Dec.{leb}
use lib.ListN.{length, take, replicate, length-take}
use lib.Seq.{take_all, take-take, take-nil, take-append-add, take-append_seam}
use borrow.Author.Tests.{leb-true, leb-false}
use Rattle.gridconnect_input.specs.declared.Carry.{Carry}
use Rattle.gridconnect_parse.specs.Parsing.{parse_of}
use Rattle.gridconnect_input.specs.Input.{kept, cut_off, carry_with, begun_of}
use Rattle.gridconnect_parse.proofs.ParseLaws.{too_long}

-- ---- what is kept

-- a length past the end takes all
pub take_more : (n : ℕ) (xs : List ℕ) → take (min n (length xs)) xs ≡ take n xs
take_more zero xs = ap (λ (k : ℕ). take k xs) (zero-min (length xs))
take_more (suc n) [] = take-nil (min (suc n) 0)
take_more (suc n) (x ∷ xs) = rw (suc-min-suc n (length xs)) (ap (λ (l : List ℕ). x ∷ l) (take_more n xs))

-- two pieces cut off together
pub cut_both : (m : ℕ) (xs ys : List ℕ) (k : ℕ) → length xs ≤ m → k ≡ min (m - length xs) (length ys) → take m (xs ++ ys) ≡ xs ++ take k ys
cut_both m xs ys k h e =
    let s : m ≡ length xs + (m - length xs) = omega arith in
    ap (λ (n : ℕ). take n (xs ++ ys)) s ∙ take-append-add xs ys (m - length xs) ∙ ap (λ (l : List ℕ). xs ++ l) (sym (take_more (m - length xs) ys) ∙ rw e)

-- what is cut off before is cut off after
cut_append : (m : ℕ) (xs ys : List ℕ) → take m (take m xs ++ ys) ≡ take m (xs ++ ys)
cut_append zero xs ys = refl
cut_append (suc m) [] ys = refl
cut_append (suc m) (x ∷ xs) ys = ap (λ (l : List ℕ). x ∷ l) (cut_append m xs ys)

pub same-cut : (a b ys : List ℕ) → cut_off a ≡ cut_off b → cut_off (a ++ ys) ≡ cut_off (b ++ ys)
same-cut a b ys e = sym (cut_append kept a ys) ∙ ap (λ (l : List ℕ). cut_off (l ++ ys)) e ∙ cut_append kept b ys

pub cut_twice : (a : List ℕ) → cut_off (cut_off a) ≡ cut_off a
cut_twice a = take-take kept kept a (omega arith)

-- ---- an overlong line is bad, cut off or not

cut_by : (a : List ℕ) (t : Bool) → leb (length a) kept ≡ t → parse_of (cut_off a) ≡ parse_of a
cut_by a true e = ap parse_of (take_all kept a (leb-true (length a) kept e))
cut_by a false e =
    let h : kept < length a = leb-false (length a) kept e in
    let l = length-take kept a in
    too_long (cut_off a) (omega arith) ∙ sym (too_long a (omega arith))

pub parse_cut : (a : List ℕ) → parse_of (cut_off a) ≡ parse_of a
parse_cut a = cut_by a (leb (length a) kept) refl

pub parse_same : (a b : List ℕ) → cut_off a ≡ cut_off b → parse_of a ≡ parse_of b
parse_same a b e = sym (parse_cut a) ∙ ap parse_of e ∙ parse_cut b

-- ---- the beginning that a carry holds

pub begun-with : (a : List ℕ) → begun_of (carry_with a) ≡ cut_off a
begun-with a = take-append_seam (cut_off a) (replicate (29 - length (cut_off a)) 0)

pub carry_same : (a b : List ℕ) → cut_off a ≡ cut_off b → carry_with a ≡ carry_with b
carry_same a b e = rw e

pub parse_carry : (a : List ℕ) {w : Carry} → w ≡ carry_with a → parse_of (begun_of w) ≡ parse_of a
parse_carry a e = ap (λ (w : Carry). parse_of (begun_of w)) e ∙ ap parse_of (begun-with a) ∙ parse_cut a

pub carry-short : (a : List ℕ) {w : Carry} → w ≡ carry_with a → w.len ≤ 29
carry-short a e = let l = length-take kept a in rw e (omega arith)

pub nothing-begun : (w : Carry) → w.len ≡ 0 → begun_of w ≡ []
nothing-begun w e = rw e
