-- Laws of reading: whether all are digits is kept in one number and tested at the end, and what a caller learns of the answer.
-- Assumes nothing.
use Prim.Native.Nat.{ℕ, zero, suc, suc-le-suc, ◌+◌, ◌*◌, ◌%◌, ◌^◌, ◌≤◌, ◌<◌}
use mathlib.Core.Path.{◌≡◌, refl, sym, ap, ◌∙◌}
use mathlib.Core.Bool.{Bool, true, false, cond, ◌&&◌}
use mathlib.Core.List.{List, [], ◌∷◌}
use native.Mathlib.Numerals.{add-one}
use native.Mathlib.Omega.{arith}
use lib.Bits.{bit_or, and_le_l, and_le_r, or_lt, or_add_and}
use lib.Dec.{leb}
use lib.ListN.{length, drop, get_or, drop_of_length-le}
use lib.Seq.{drop-cons}
use borrow.Author.Tests.{le-leb, lt-leb, leb-true, leb-false, eq-eqb}
use Rattle.buffer.proofs.Choice.{and_left, and_right, by-test}
use Rattle.hex_digit.specs.Digit.{digit_value}
use Rattle.hex_print.specs.Digits.{all_digits, number_in}
use Rattle.std.specs.Prelude.{Some, None}
use Rattle.hex_read.specs.Reading.{bytes_in, some_bytes, read_of, read_number}

-- ---- the worst of the values so far

-- two values are a digit's where their bits, put together, are
or_small : (a b : ℕ) → leb (bit_or a b) 15 ≡ (leb a 15 && leb b 15)
or_small a b =
    let s = or_add_and a b in
    let l = and_le_l a b in
    let r = and_le_r a b in
    by-test (leb a 15)
    (λ ea. by-test (leb b 15)
    (λ eb. let p = leb-true a 15 ea in let q = leb-true b 15 eb in let t = or_lt 4 a b (omega arith) (omega arith) in rw (ea, eb) (le-leb (bit_or a b) 15 (omega arith)))
    (λ eb. let q = leb-false b 15 eb in rw (ea, eb) (lt-leb (bit_or a b) 15 (omega arith))))
    (λ ea. let p = leb-false a 15 ea in rw ea (lt-leb (bit_or a b) 15 (omega arith)))

regroup : (a b c : Bool) → (a && (b && c)) ≡ ((a && b) && c)
regroup true b c = refl
regroup false b c = refl

-- the values before index i are in `worst`, and what is left decides the rest
abbrev pub Passed : List ℕ → ℕ → ℕ → Type 0
Passed s i worst = all_digits s ≡ (leb worst 15 && all_digits (drop i s))

pub next_one : (s : List ℕ) (i : ℕ) → i < length s → drop i s ≡ get_or s i 0 ∷ drop (i + 1) s
next_one s i h = rw (add-one i) (drop-cons s i 0 h)

module _ (s : List ℕ) (i worst x : ℕ) (h : i < length s) (e : x ≡ digit_value (get_or s i 0)) where
  pub passed : Passed s i worst → Passed s (i + 1) (bit_or worst x)
  unfolding all_digits
  passed p = p ∙ ap (λ (l : List ℕ). leb worst 15 && all_digits l) (next_one s i h) ∙ rw (or_small worst x, ← e) (regroup (leb worst 15) (leb x 15) (all_digits (drop (i + 1) s)))

  pub small : Passed s i worst → all_digits s ≡ true → x ≤ 15
  small p t = leb-true x 15 (and_right (leb worst 15) (leb x 15) (sym (or_small worst x) ∙ and_left (leb (bit_or worst x) 15) (all_digits (drop (i + 1) s)) (sym (passed p) ∙ t)))

module _ (s : List ℕ) (i worst : ℕ) (p : Passed s i worst) where
  pub one-bad : 15 < worst → all_digits s ≡ false
  one-bad h = p ∙ rw (lt-leb worst 15 h)

  pub all-good : worst ≤ 15 → length s ≤ i → all_digits s ≡ true
  unfolding all_digits
  all-good h k = p ∙ rw (le-leb worst 15 h, drop_of_length-le s {i = i} k)

-- the number of digits that stand behind others, which are `value`
abbrev pub behind : ℕ → List ℕ → ℕ
behind value s = value * 16 ^ length s + number_in s

-- ---- the next two digits of a text

pub next_pair : (s : List ℕ) (i : ℕ) → i + 1 < length s → drop i s ≡ get_or s i 0 ∷ get_or s (i + 1) 0 ∷ drop (i + 2) s
next_pair s i h =
    let e : i + 1 + 1 ≡ i + 2 = omega arith in
    let second : drop (i + 1) s ≡ get_or s (i + 1) 0 ∷ drop (i + 2) s = rw e at (next_one s (i + 1) h) in
    next_one s i (omega arith) ∙ ap (λ (l : List ℕ). get_or s i 0 ∷ l) second

pub pair-value : (a b : ℕ) → number_in (a ∷ b ∷ []) ≡ digit_value a * 16 + digit_value b
unfolding number_in
pair-value a b = omega arith

-- two digits make a byte
pub half : (k : ℕ) (s : List ℕ) → length s ≤ k * 2 → length (bytes_in s) ≤ k
unfolding bytes_in
half k [] h = omega arith
half k (a ∷ []) h = omega arith
half zero (a ∷ b ∷ more) h = absurd (omega (arith, add-one (suc (length more))))
half (suc k) (a ∷ b ∷ more) h = suc-le-suc (half k more (omega (arith, add-one (suc (length more)), add-one (length more), add-one k)))

-- ---- for callers: of a text of a right length the answer is there where all are digits

-- of a value that is chosen by a test: which way the test went, and which value it is
pub chosen : {A : Type 0} (t : Bool) {x y : A} → cond t (Some x) None ≡ Some y → (t ≡ true) × (x ≡ y)
chosen true e = (refl, cc)
chosen false e = absurd cc

pub not_chosen : {A : Type 0} (t : Bool) (x : A) → cond t (Some x) None ≡ None → t ≡ false
not_chosen true x e = absurd cc
not_chosen false x e = refl

pub by_digits : (s : List ℕ) → length s ≡ 8 → read_number s ≡ cond (all_digits s) (Some (number_in s)) None
unfolding read_number
by_digits s l = rw (eq-eqb (length s) 8 l)

pub by-pairs : (s : List ℕ) → length s ≤ 16 → length s % 2 ≡ 0 → read_of s ≡ cond (all_digits s) (Some (some_bytes (bytes_in s))) None
unfolding read_of
by-pairs s few even = rw (le-leb (length s) 16 few, eq-eqb (length s % 2) 0 even)
