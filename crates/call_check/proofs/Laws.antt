-- Laws of the spaces of a table, looked through in their order, and of the first error of a call.
-- Assumes nothing.
use Prim.Native.Nat.{ℕ, zero, suc, ◌+◌, ◌-◌, ◌*◌, ◌/◌, ◌%◌, ◌^◌, ◌≤◌, ◌<◌, max}
use mathlib.Core.Path.{◌≡◌, refl, sym, ap, subst, ◌∙◌}
use mathlib.Core.Bool.{Bool, true, false, cond, ◌||◌}
use mathlib.Core.List.{List, [], ◌∷◌, ◌++◌}
use native.Mathlib.Numerals.{add-one}
use native.Mathlib.Omega.{arith}
use lib.Arith.{bin_ind}
use lib.Bits.{bit_or, or_step, or_zero_l, or_self, or_comm}
use lib.Dec.{eqb}
use lib.ListN.{length, drop, get_or, drop_of_length-le}
use lib.Seq.{drop-cons}
use borrow.Author.Tests.{eq-eqb, ne_eqb}
use Rattle.space_table.specs.Table.{no_space, row_at, space_at, spaces_from, spaces_in}
use Rattle.space_table.proofs.TableLaws.{spaces-length, space-in, table_next, table_done}
use Rattle.space_table.specs.declared.Space.{Space}
use Rattle.call_error.specs.CallErrors.{or_else, among, space_numbers, window_check, spaces_check, description_check, Checked}
use Rattle.call_error.specs.declared.CallError.{CallError}
use Rattle.call_error.specs.declared.CallError.TheVariants.{B5NumberUsedTwice}
use Rattle.call_error.specs.Positions.{Positioned}
use Rattle.call_error.proofs.Laws.{first_counts, second_counts}
use Rattle.call_error.proofs.Positions.{Unplaced, positioned}
use Rattle.std.specs.Prelude.{Ok, Err}

-- ---- the numbers that are used

-- a look through the spaces of a table for a number, from space i on
module _ (t : List ℕ) (i count n : ℕ) where
  pub used_hit : i < count → get_or t (16 * i) 0 ≡ n → among n (space_numbers (spaces_from t i (count - i))) ≡ true
  unfolding among space_numbers row_at
  used_hit h q = rw (table_next t i count h, eq-eqb (get_or t (16 * i) 0) n q)

  pub used_miss : i < count → (get_or t (16 * i) 0 ≡ n → ⊥) → among n (space_numbers (spaces_from t i (count - i))) ≡ among n (space_numbers (spaces_from t (i + 1) (count - (i + 1))))
  unfolding among space_numbers row_at
  used_miss h q = rw (table_next t i count h, ne_eqb (get_or t (16 * i) 0) n q)

  pub used_none : count ≤ i → among n (space_numbers (spaces_from t i (count - i))) ≡ false
  unfolding among space_numbers
  used_none h = rw (table_done t i count h)

numbers-suc : (t : List ℕ) (i n : ℕ) → space_numbers (spaces_from t i (suc n)) ≡ space_numbers (spaces_from t i n) ++ (get_or t (16 * (i + n)) 0 ∷ [])
unfolding space_numbers spaces_from row_at
numbers-suc t i zero = let e : i ≡ i + 0 = omega arith in ap (λ (k : ℕ). get_or t (16 * k) 0 ∷ []) e
numbers-suc t i (suc n) =
    let e : i + 1 + n ≡ i + suc n = omega (arith, add-one n) in
    ap (λ (r : List ℕ). get_or t (16 * i) 0 ∷ r) (rw (← e) (numbers-suc t (i + 1) n))

-- the numbers of the spaces before one that was read, and its own
pub numbers_more : (t : List ℕ) (i : ℕ) {s : Space} → i < length (spaces_in t) → s ≡ space_at t i → space_numbers (spaces_from t 0 (i + 1)) ≡ space_numbers (spaces_from t 0 i) ++ (s.number ∷ [])
unfolding row_at
numbers_more t i h e =
    let z : 0 + i ≡ i = omega arith in
    rw (add-one i, numbers-suc t 0 i, z, e, space-in t i (rw (← spaces-length t 0 (length t / 16)) h))

-- as many numbers as spaces
pub numbers-length : (t : List ℕ) (i n : ℕ) → length (space_numbers (spaces_from t i n)) ≡ n
unfolding space_numbers spaces_from
numbers-length t i zero = refl
numbers-length t i (suc n) = ap suc (numbers-length t (i + 1) n)

-- a mark for each number, the bit at its remainder: where setting it changes the marks, no earlier space has the number
abbrev pub mark_of : ℕ → ℕ
mark_of n = (1 * 2 ^ (n % 32)) % 2 ^ 32

abbrev pub Marks : ℕ → List ℕ → Type 0
Marks marks earlier = (k : ℕ) → (bit_or marks (mark_of k) ≡ marks → ⊥) → among k earlier ≡ false

among-more : (k n : ℕ) (l : List ℕ) → among k (l ++ (n ∷ [])) ≡ (eqb n k || among k l)
unfolding among
among-more k n [] = refl
among-more k n (m ∷ l) = rw (among-more k n l) (or_swap (eqb m k) (eqb n k) (among k l))
  where
    or_swap : (a b c : Bool) → (a || (b || c)) ≡ (b || (a || c))
    or_swap true true c = refl
    or_swap true false c = refl
    or_swap false b c = refl

-- bits that are put together group as one pleases
or_half : (a b : ℕ) → bit_or a b / 2 ≡ bit_or (a / 2) (b / 2)
or_half a b = omega (arith, or_step a b)

or_bit : (a b : ℕ) → bit_or a b % 2 ≡ max (a % 2) (b % 2)
or_bit a b = omega (arith, or_step a b)

or_assoc : (a b c : ℕ) → bit_or (bit_or a b) c ≡ bit_or a (bit_or b c)
or_assoc a =
    bin_ind (λ (n : ℕ). (b c : ℕ) → bit_or (bit_or n b) c ≡ bit_or n (bit_or b c)) (λ b c. rw (or_zero_l b, or_zero_l (bit_or b c)))
    (λ n ih b c.
    let l : bit_or (bit_or n b) c ≡ bit_or (bit_or (n / 2) (b / 2)) (c / 2) * 2 + max (max (n % 2) (b % 2)) (c % 2) = rw (← or_half n b, ← or_bit n b) (or_step (bit_or n b) c) in
    let r : bit_or n (bit_or b c) ≡ bit_or (n / 2) (bit_or (b / 2) (c / 2)) * 2 + max (n % 2) (max (b % 2) (c % 2)) = rw (← or_half b c, ← or_bit b c) (or_step n (bit_or b c)) in
    omega (arith, l, r, ih (b / 2) (c / 2))) a

pub marks_none : Marks 0 []
unfolding among
marks_none k z = refl

-- a mark that was set stays set, and the mark of a number is set behind it
pub marks_more : (marks : ℕ) (earlier : List ℕ) (n : ℕ) → Marks marks earlier → Marks (bit_or marks (mark_of n)) (earlier ++ (n ∷ []))
marks_more marks earlier n m k z = rw (among-more k n earlier, ne_eqb n k other, m k unset)
  where
    other : n ≡ k → ⊥
    other q = z (ap (λ (j : ℕ). bit_or (bit_or marks (mark_of n)) (mark_of j)) (sym q) ∙ or_assoc marks (mark_of n) (mark_of n) ∙ ap (bit_or marks) (or_self (mark_of n)))

    unset : bit_or marks (mark_of k) ≡ marks → ⊥
    unset q =
        z
        (or_assoc marks (mark_of n) (mark_of k) ∙ ap (bit_or marks) (or_comm (mark_of n) (mark_of k)) ∙ sym (or_assoc marks (mark_of k) (mark_of n))
        ∙ ap (λ (w : ℕ). bit_or w (mark_of n)) q)

-- ---- the check

-- a turn of the check, by what is found of the window and whether the number is used; and its end. The position is the number of earlier spaces
module _ (l : List Space) (i f m : ℕ) (earlier : List ℕ) {s : Space} (at : length earlier ≡ i) (h : i < length l) (e : s ≡ get_or l i no_space) where
  turn : spaces_check f m earlier (drop i l) ≡ or_else (or_else (window_check f m i s) (cond (among s.number earlier) (Err (B5NumberUsedTwice i)) (Ok tt))) (spaces_check f m (earlier ++ (s.number ∷ [])) (drop (i + 1) l))
  unfolding spaces_check
  turn = rw (add-one i, drop-cons l i no_space h, at, e)

  pub turn-refused : {error : CallError} → window_check f m i s ≡ Err error → spaces_check f m earlier (drop i l) ≡ Err error
  turn-refused q = turn ∙ rw q refl

  module _ {u : Unit {0}} (q : window_check f m i s ≡ Ok u) where
    pub turn-used : among s.number earlier ≡ true → spaces_check f m earlier (drop i l) ≡ Err (B5NumberUsedTwice i)
    turn-used z = turn ∙ rw (q, z)

    pub turn-good : among s.number earlier ≡ false → spaces_check f m earlier (drop i l) ≡ spaces_check f m (earlier ++ (s.number ∷ [])) (drop (i + 1) l)
    turn-good z = turn ∙ rw (q, z)

pub turn-none : (l : List Space) (i f m : ℕ) (earlier : List ℕ) → length l ≤ i → spaces_check f m earlier (drop i l) ≡ Ok tt
unfolding spaces_check
turn-none l i f m earlier h = rw (drop_of_length-le l {i = i} h)

-- ---- a call

-- what its position says: of an error of the description, and of what is found behind a description without one, which
-- has no position of its own, whatever it is
module _ (alias : ℕ) (l : List Space) (f m : ℕ) where
  pub positioned_first : {error : CallError} → description_check alias l f m ≡ Err error → Positioned alias f m l (Err error)
  positioned_first e = subst (Positioned alias f m l) (first_counts _ (Ok tt) e) (positioned alias f m l (Ok tt) refl)

  pub positioned_behind : (other : Checked) → Unplaced other → {u : Unit {0}} → description_check alias l f m ≡ Ok u → Positioned alias f m l other
  positioned_behind other nowhere good = subst (Positioned alias f m l) (second_counts _ other good) (positioned alias f m l other nowhere)
