-- Laws of lists of pairs, one for each byte of memory.
-- Assumes nothing.
use Prim.Native.Nat.{ℕ, zero, suc, ◌+◌, ◌<◌}
use mathlib.Core.Path.{◌≡◌, refl, sym, ap, ap₂, ◌∙◌}
use mathlib.Core.List.{List, [], ◌∷◌}
use native.Mathlib.Omega.{arith}
use lib.Bits.{and_zero_r}
use lib.ListN.{length, drop, replicate, length-replicate}
use lib.Seq.{get_or-drop}
use Rattle.buffer.specs.Buffer.{AllBytes}
use Rattle.cmd_fields.specs.Commands.{Pair}
use Rattle.exec_store.specs.Storing.{masked}
use Rattle.mask_combine.specs.Combining.{untouched, put_together, together, keeps_all, AllProper, NoCommonBit, PairsAddUp}
use Rattle.mask_combine.proofs.PairLaws as pairs

cons : {p q : Pair} {e f : List Pair} → p ≡ q → e ≡ f → p ∷ e ≡ q ∷ f
cons a b = ap₂ (λ p e. p ∷ e) a b

-- bytes of a part
pub drop-bytes : (n : ℕ) (l : List ℕ) → AllBytes l → AllBytes (drop n l)
drop-bytes n l h i = rw (get_or-drop n l i 0) (h (n + i))

-- ---- one after the other

in_turn : (e f : List Pair) (memory : List ℕ) → length e ≡ length memory → length f ≡ length memory → AllProper e → AllProper f →
    masked (together e f) memory ≡ masked f (masked e memory)
unfolding masked together
in_turn [] [] memory a b p q = refl
in_turn [] (y ∷ f) [] a b p q = refl
in_turn [] (y ∷ f) (o ∷ memory) a b p q = absurd (omega arith)
in_turn (x ∷ e) [] memory a b p q = refl
in_turn (x ∷ e) (y ∷ f) [] a b p q = refl
in_turn (x ∷ e) (y ∷ f) (o ∷ memory) a b p q =
    ap₂ (λ o l. o ∷ l) (sym (pairs.in_turn o x y (p 0).mask (q 0).mask)) (in_turn e f memory (omega arith) (omega arith) (λ i. p (suc i)) (λ i. q (suc i)))

together-length : (e f : List Pair) → length e ≡ length f → length (together e f) ≡ length e
unfolding together
together-length [] [] h = refl
together-length [] (y ∷ f) h = absurd (omega arith)
together-length (x ∷ e) [] h = refl
together-length (x ∷ e) (y ∷ f) h = ap suc (together-length e f (omega arith))

together-proper : (e f : List Pair) → AllProper e → AllProper f → AllProper (together e f)
unfolding together
together-proper [] f p q i = q i
together-proper (x ∷ e) [] p q i = p i
together-proper (x ∷ e) (y ∷ f) p q zero = pairs.together-proper (p 0) (q 0)
together-proper (x ∷ e) (y ∷ f) p q (suc i) = together-proper e f (λ j. p (suc j)) (λ j. q (suc j)) i

groups : (e f g : List Pair) → AllProper e → AllProper f → AllProper g → together (together e f) g ≡ together e (together f g)
unfolding together
groups [] f g p q r = refl
groups (x ∷ e) [] g p q r = refl
groups (x ∷ e) (y ∷ f) [] p q r = refl
groups (x ∷ e) (y ∷ f) (z ∷ g) p q r =
    cons (pairs.groups (p 0) (q 0) (r 0)) (groups e f g (λ i. p (suc i)) (λ i. q (suc i)) (λ i. r (suc i)))

-- ---- nothing

nothing-proper : (m : ℕ) → AllProper (keeps_all m)
nothing-proper zero i = pairs.untouched-proper
nothing-proper (suc m) zero = pairs.untouched-proper
nothing-proper (suc m) (suc i) = nothing-proper m i

before : (m : ℕ) (e : List Pair) → length e ≡ m → AllProper e → together (keeps_all m) e ≡ e
unfolding together
before zero e h p = refl
before (suc m) [] h p = absurd (omega arith)
before (suc m) (x ∷ e) h p = cons (pairs.before (p 0)) (before m e (omega arith) (λ i. p (suc i)))

behind : (m : ℕ) (e : List Pair) → length e ≡ m → AllProper e → together e (keeps_all m) ≡ e
unfolding together
behind zero [] h p = refl
behind zero (x ∷ e) h p = refl
behind (suc m) [] h p = absurd (omega arith)
behind (suc m) (x ∷ e) h p = cons (pairs.behind (p 0)) (behind m e (omega arith) (λ i. p (suc i)))

-- ---- either order

either_order : (e f : List Pair) → AllProper e → AllProper f → NoCommonBit e f → together e f ≡ together f e
unfolding together
either_order [] [] p q z = refl
either_order [] (y ∷ f) p q z = refl
either_order (x ∷ e) [] p q z = refl
either_order (x ∷ e) (y ∷ f) p q z =
    cons (pairs.either_order (p 0) (q 0) (z 0)) (either_order e f (λ i. p (suc i)) (λ i. q (suc i)) (λ i. z (suc i)))

apart : (e f g : List Pair) → AllProper g → NoCommonBit e g → NoCommonBit f g → NoCommonBit (together e f) g
unfolding together
apart [] f g r x y i = y i
apart (p ∷ e) [] g r x y i = x i
apart (p ∷ e) (q ∷ f) [] r x y zero = and_zero_r (put_together p q).mask
apart (p ∷ e) (q ∷ f) [] r x y (suc i) = apart e f [] r (λ j. x (suc j)) (λ j. y (suc j)) i
apart (p ∷ e) (q ∷ f) (z ∷ g) r x y zero = pairs.apart p q (r 0) (x 0) (y 0)
apart (p ∷ e) (q ∷ f) (z ∷ g) r x y (suc i) = apart e f g (λ j. r (suc j)) (λ j. x (suc j)) (λ j. y (suc j)) i

-- ---- what is done to the memory of zeros and to that of ones says which list it is

equal_bytes : (m b : ℕ) → b < 256 → AllBytes (replicate m b)
equal_bytes zero b h i = omega arith
equal_bytes (suc m) b h zero = h
equal_bytes (suc m) b h (suc i) = equal_bytes m b h i

pub first : {x y : ℕ} {l k : List ℕ} → x ∷ l ≡ y ∷ k → x ≡ y
first e = cc

pub rest : {x y : ℕ} {l k : List ℕ} → x ∷ l ≡ y ∷ k → l ≡ k
rest e = cc

two_tell : (m : ℕ) (e f : List Pair) → length e ≡ m → length f ≡ m → AllProper e → AllProper f →
    masked e (replicate m 0) ≡ masked f (replicate m 0) → masked e (replicate m 255) ≡ masked f (replicate m 255) → e ≡ f
unfolding masked
two_tell zero [] [] a b p q zeros ones = refl
two_tell zero [] (y ∷ f) a b p q zeros ones = absurd (omega arith)
two_tell zero (x ∷ e) f a b p q zeros ones = absurd (omega arith)
two_tell (suc m) [] f a b p q zeros ones = absurd (omega arith)
two_tell (suc m) (x ∷ e) [] a b p q zeros ones = absurd (omega arith)
two_tell (suc m) (x ∷ e) (y ∷ f) a b p q zeros ones =
    cons (pairs.unique (p 0) (q 0) (first zeros) (first ones)) (two_tell m e f (omega arith) (omega arith) (λ i. p (suc i)) (λ i. q (suc i)) (rest zeros) (rest ones))

pub add_up : PairsAddUp
add_up m =
    record {
      in_turn = λ e f memory a b l. in_turn e f memory (a.size ∙ sym l) (b.size ∙ sym l) a.proper b.proper;
      closed = λ e f a b. record { size = together-length e f (a.size ∙ sym b.size) ∙ a.size; proper = together-proper e f a.proper b.proper };
      groups = λ e f g a b c. groups e f g a.proper b.proper c.proper;
      empty = record { size = length-replicate m untouched; proper = nothing-proper m };
      before = λ e a. before m e a.size a.proper;
      behind = λ e a. behind m e a.size a.proper;
      either_order = λ e f a b z. either_order e f a.proper b.proper z;
      apart = λ e f g a b c. apart e f g c.proper;
      unique = λ e f a b same.
          two_tell m e f a.size b.size a.proper b.proper
          (same (replicate m 0) (length-replicate m 0) (equal_bytes m 0 (omega arith)))
          (same (replicate m 255) (length-replicate m 255) (equal_bytes m 255 (omega arith)));
    }
