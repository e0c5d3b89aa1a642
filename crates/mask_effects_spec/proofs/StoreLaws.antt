-- What a write and a masked write store, by one mask and one data byte for each byte of memory.
-- Assumes nothing.
use Prim.Native.Nat.{ℕ, zero, suc, ◌+◌, ◌-◌, ◌≤◌, ◌<◌}
use mathlib.Core.Path.{◌≡◌, refl, sym, ap, ap₂, ◌∙◌}
use mathlib.Core.List.{List, [], ◌∷◌, ◌++◌, map, append_assoc}
use native.Mathlib.Omega.{arith}
use lib.ListN.{length, take, drop, get_or, length-append, length-drop, length-replicate}
use lib.Seq.{drop-drop}
use borrow.Author.Tests.{le-leb}
use Rattle.buffer.specs.Buffer.{put_at, AllBytes}
use Rattle.buffer.proofs.Laws.{placed-fits}
use Rattle.cmd_fields.specs.Commands.{Pair, pairs_of}
use Rattle.exec_store.specs.Storing.{store_bytes, mask_byte, masked, store_masked}
use Rattle.mask_combine.specs.Combining.{untouched, plain, zero_outside, keeps_all, AllProper, Effect}
use Rattle.mask_combine.proofs.PairLaws as pairs
use Rattle.mask_combine.proofs.ListLaws.{add_up}
use Rattle.mask_effects_spec.specs.Effects.{placed_from}

-- ---- pairs that keep, before others and behind them

none_left : (e : List Pair) → masked e [] ≡ []
unfolding masked
none_left [] = refl
none_left (p ∷ e) = refl

lead : (index : ℕ) (e : List Pair) (memory : List ℕ) → AllBytes memory → masked (keeps_all index ++ e) memory ≡ take index memory ++ masked e (drop index memory)
unfolding masked
lead zero e memory h = refl
lead (suc index) e [] h = sym (none_left e)
lead (suc index) e (o ∷ memory) h = ap₂ (λ x l. x ∷ l) (pairs.kept o (h 0)) (lead index e memory (λ i. h (suc i)))

pub keeps : (n : ℕ) (memory : List ℕ) → AllBytes memory → masked (keeps_all n) memory ≡ memory
unfolding masked
keeps zero memory h = refl
keeps (suc n) [] h = refl
keeps (suc n) (o ∷ memory) h = ap₂ (λ x l. x ∷ l) (pairs.kept o (h 0)) (keeps n memory (λ i. h (suc i)))

trail : (e : List Pair) (n : ℕ) (memory : List ℕ) → AllBytes memory → masked (e ++ keeps_all n) memory ≡ masked e memory
unfolding masked
trail [] n memory h = keeps n memory h
trail (p ∷ e) n [] h = refl
trail (p ∷ e) n (o ∷ memory) h = ap (λ l. mask_byte o p ∷ l) (trail e n memory (λ i. h (suc i)))

placed-does : (m index : ℕ) (e : List Pair) (memory : List ℕ) → AllBytes memory → masked (placed_from m index e) memory ≡ take index memory ++ masked e (drop index memory)
placed-does m index e memory h = trail (keeps_all index ++ e) (m - (index + length e)) memory h ∙ lead index e memory h

-- ---- a plain write

plain-does : (bytes l : List ℕ) → AllBytes bytes → length bytes ≤ length l → masked (map plain bytes) l ≡ bytes ++ drop (length bytes) l
unfolding masked
plain-does [] l b h = refl
plain-does (x ∷ bytes) [] b h = absurd (omega arith)
plain-does (x ∷ bytes) (o ∷ l) b h = ap₂ (λ x l. x ∷ l) (pairs.plainly o x (b 0)) (plain-does bytes l (λ i. b (suc i)) (omega arith))

pub bytes-stored : (m index : ℕ) (bytes memory : List ℕ) → AllBytes bytes → AllBytes memory → index + length bytes ≤ length memory →
    store_bytes bytes index memory ≡ masked (placed_from m index (map plain bytes)) memory
unfolding put_at
bytes-stored m index bytes memory b h f =
    placed-fits index bytes memory f
    ∙ sym (placed-does m index (map plain bytes) memory h
    ∙ ap (λ (l : List ℕ). take index memory ++ l) (plain-does bytes (drop index memory) b (simp length-drop (omega arith)))
    ∙ ap (λ (l : List ℕ). take index memory ++ (bytes ++ l)) (drop-drop (length bytes) index memory)
    ∙ sym (append_assoc (take index memory) bytes (drop (index + length bytes) memory)))

-- ---- a masked write

-- masks and data are bytes
abbrev pub BytePairs : List Pair → Type 0
BytePairs e = (i : ℕ) → (get_or e i untouched).mask < 256

pub byte_pairs : (l : List ℕ) → AllBytes l → BytePairs (pairs_of l)
unfolding pairs_of
byte_pairs [] h i = omega arith
byte_pairs (m ∷ []) h i = omega arith
byte_pairs (m ∷ v ∷ l) h zero = h 0
byte_pairs (m ∷ v ∷ l) h (suc i) = byte_pairs l (λ j. h (suc (suc j))) i

outside-does : (e : List Pair) (l : List ℕ) → BytePairs e → masked (map zero_outside e) l ≡ masked e l
unfolding masked
outside-does [] l b = refl
outside-does (p ∷ e) [] b = refl
outside-does (p ∷ e) (o ∷ l) b = ap₂ (λ x l. x ∷ l) (pairs.outside-ignored o p (b 0)) (outside-does e l (λ i. b (suc i)))

pub pairs-stored : (m index : ℕ) (e : List Pair) (memory : List ℕ) → BytePairs e → AllBytes memory → index + length e ≤ length memory →
    store_masked e index memory ≡ masked (placed_from m index (map zero_outside e)) memory
unfolding store_masked
pairs-stored m index e memory b h f =
    rw (le-leb _ _ f)
    (sym (placed-does m index (map zero_outside e) memory h ∙ ap (λ (l : List ℕ). take index memory ++ l) (outside-does e (drop index memory) b)))

-- ---- such pairs are one mask and one data byte for each byte of memory

append_proper : (e f : List Pair) → AllProper e → AllProper f → AllProper (e ++ f)
append_proper [] f p q i = q i
append_proper (x ∷ e) f p q zero = p 0
append_proper (x ∷ e) f p q (suc i) = append_proper e f (λ j. p (suc j)) q i

nothing-proper : (n : ℕ) → AllProper (keeps_all n)
nothing-proper n = (add_up n).empty.proper

pub placed-effect : (m index : ℕ) (e : List Pair) → AllProper e → index + length e ≤ m → Effect m (placed_from m index e)
placed-effect m index e p f =
    record {
      size =
          length-append (keeps_all index ++ e) (keeps_all (m - (index + length e)))
          ∙ ap₂ ◌+◌ (length-append (keeps_all index) e ∙ ap (λ (k : ℕ). k + length e) (length-replicate index untouched)) (length-replicate (m - (index + length e)) untouched)
          ∙ (let z : index + length e + (m - (index + length e)) ≡ m = omega arith in z);
      proper = append_proper (keeps_all index ++ e) (keeps_all (m - (index + length e))) (append_proper (keeps_all index) e (nothing-proper index) p) (nothing-proper (m - (index + length e)));
    }

pub plain-proper : (bytes : List ℕ) → AllBytes bytes → AllProper (map plain bytes)
plain-proper [] b i = pairs.untouched-proper
plain-proper (x ∷ bytes) b zero = pairs.plain-proper x (b 0)
plain-proper (x ∷ bytes) b (suc i) = plain-proper bytes (λ j. b (suc j)) i

pub outside-proper : (e : List Pair) → BytePairs e → AllProper (map zero_outside e)
outside-proper [] b i = pairs.untouched-proper
outside-proper (p ∷ e) b zero = pairs.outside-proper p (b 0)
outside-proper (p ∷ e) b (suc i) = outside-proper e (λ j. b (suc j)) i
