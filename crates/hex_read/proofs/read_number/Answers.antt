-- `read_number` meets its contract. The invariant: what is left decides whether all are digits, and if they are, reading it behind the
-- value so far makes the number.
-- Assumes nothing.
use Prim.Native.Nat.{ℕ, ◌+◌, ◌*◌, ◌%◌, ◌^◌, ◌≤◌, ◌<◌}
use mathlib.Core.Path.{◌≡◌, refl, sym, ap, ◌∙◌}
use mathlib.Core.Bool.{true, false}
use mathlib.Core.List.{List, [], ◌∷◌}
use native.Mathlib.Numerals.{add-one}
use native.Mathlib.Nat.{pow-suc, pow-succ', pow-le-pow_right, mul_assoc, add-mul, zero-add, zero-mul}
use native.Mathlib.Omega.{arith}
use borrow.Author.Tests.{eq-eqb, ne_eqb}
use lib.Bits.{bit_and, and_mask}
use lib.ListN.{length, drop, get_or, drop_of_length-le}
use Rattle.hex_digit.specs.Digit.{digit_value}
use Rattle.hex_print.specs.Digits.{all_digits, number_in}
use Rattle.hex_read.specs.Reading.{read_number}
use Rattle.std.specs.Prelude.{Some, None}
use Rattle.hex_read.proofs.BackLaws.{number-read-back, number-again}
use Rattle.hex_read.proofs.ReadLaws.{next_one, behind, passed, small, one-bad, all-good}
use Rattle.hex_read.proofs.read_number.Goals as goal

-- a turn
module _ (i value x : ℕ) (h : i < 8) (v : value < 16 ^ i) where
  power : 16 ^ (i + 1) ≡ 16 ^ i * 16
  power = rw (add-one i) (pow-suc 16 i)

  room : value * 16 < 2 ^ 32
  room = let m : 16 ^ (i + 1) ≤ 16 ^ 8 = pow-le-pow_right {n = 16} (omega arith) {i = i + 1} {j = 8} (omega arith) in omega (arith, power)

  pub below : value * 16 % 2 ^ 32 + bit_and x 15 < 16 ^ (i + 1)
  below = omega (arith, power, room, and_mask x 4)

  pub value-is : x ≤ 15 → value * 16 % 2 ^ 32 + bit_and x 15 ≡ value * 16 + x
  value-is k = omega (arith, room, and_mask x 4)

one-digit : (value c : ℕ) (more : List ℕ) → behind value (c ∷ more) ≡ behind (value * 16 + digit_value c) more
unfolding number_in
one-digit value c more =
    rw (pow-succ' 16 (length more), ← mul_assoc value 16 (16 ^ length more), add-mul (value * 16) (digit_value c) (16 ^ length more)) (omega arith)

number-next : (s : List ℕ) (i value x : ℕ) → i < length s → x ≡ digit_value (get_or s i 0) → behind value (drop i s) ≡ behind (value * 16 + x) (drop (i + 1) s)
number-next s i value x h e = ap (λ (l : List ℕ). behind value l) (next_one s i h) ∙ one-digit value (get_or s i 0) (drop (i + 1) s) ∙ rw e

-- the ends
module _ (s : List ℕ) where
  not_eight : (length s ≡ 8 → ⊥) → None ≡ read_number s
  unfolding read_number
  not_eight h = rw (ne_eqb (length s) 8 h)

  module _ (l : length s ≡ 8) where
    no-number : all_digits s ≡ false → None ≡ read_number s
    unfolding read_number
    no-number f = simp (eq-eqb (length s) 8 l, f)

    a-number : (v : ℕ) → all_digits s ≡ true → behind v (drop 8 s) ≡ number_in s → Some v ≡ read_number s
    unfolding read_number number_in
    a-number v t e =
        let n : drop 8 s ≡ [] = drop_of_length-le s {i = 8} (omega arith) in
        let f : behind v [] ≡ number_in s = rw n at e in
        let q : v ≡ number_in s = omega arith in
        simp (eq-eqb (length s) 8 l, t, ← q)

pub returns-then-text-ne8 : goal.returns-then-text-ne8
returns-then-text-ne8 c = record {
  value = not_eight c.args.text.now c.if-text-ne8.true;
  read_back = number-read-back;
  printed_again = number-again;
}

pub loop-i-init : goal.loop-i-init
loop-i-init c = (omega arith, refl, λ t. rw (zero-mul, zero-add))

pub loop-i-preserved : goal.loop-i-preserved
loop-i-preserved c =
    let s = c.args.text.now in
    let l = c.loop-i in
    let i = l.i in
    let x = c.value_of-digit.result in
    let e = c.value_of-digit.ensures in
    let k : i < length s = omega arith in
    let h : i < 8 = omega (arith, c.if-text-ne8.false) in
    rw c.from.ensures (
      below i l.value x h l.invariant.0,
      passed s i l.worst x k e l.invariant.1,
      λ t. ap (λ (v : ℕ). behind v (drop (i + 1) s)) (value-is i l.value x h l.invariant.0 (small s i l.worst x k e l.invariant.1 t)) ∙ sym (number-next s i l.value x k e) ∙ l.invariant.2 t,
    )

pub returns-then-worst-gt15 : goal.returns-then-worst-gt15
returns-then-worst-gt15 c =
    let s = c.args.text.now in
    let l = c.loop-i in
    record {
      value = no-number s c.if-text-ne8.false (one-bad s l.i l.worst l.invariant.1 c.if-worst-gt15.true);
      read_back = number-read-back;
      printed_again = number-again;
    }

pub returns : goal.returns
returns c =
    let s = c.args.text.now in
    let l = c.loop-i in
    let e : l.i ≡ 8 = omega (arith, c.if-text-ne8.false) in
    let t = all-good s l.i l.worst l.invariant.1 (omega arith) (omega arith) in
    record {
      value = a-number s c.if-text-ne8.false l.value t (rw e at (l.invariant.2 t));
      read_back = number-read-back;
      printed_again = number-again;
    }
