-- A text in a datagram: found where the language has one, and nowhere else.
-- Assumes nothing.
use Prim.Native.Nat.{ℕ, suc, ◌+◌, ◌-◌, ◌≤◌}
use mathlib.Core.Path.{◌≡◌, refl, sym, ap, ◌∙◌}
use mathlib.Core.Bool.{true, false, not}
use mathlib.Core.List.{List, [], ◌∷◌, ◌++◌}
use native.Mathlib.Omega.{arith}
use native.Mathlib.Numerals.{add-one}
use lib.Dec.{leb, eqb}
use lib.ListN.{length, take, drop, length-append, length-drop, drop_of_length-le}
use lib.Seq.{take_at}
use borrow.Author.Tests.{eq-eqb, ne_eqb, le-leb, lt-leb, eqb-true, leb-true, leb-false, not-true}
use Rattle.buffer.proofs.Choice.{and_left, and_right, by-test}
use Rattle.reply_spec.specs.ReplyForms.{Text, no_text, text, text_bytes, no_zero, Ended}
use Rattle.tool_read_spec.specs.Finding.{first_zero, is_text, text_from, text_of}

-- the first zero byte behind characters of which none is zero
zero-behind : (cs : List ℕ) → no_zero cs ≡ true → first_zero (cs ++ (0 ∷ [])) ≡ length cs
unfolding no_zero first_zero
zero-behind [] e = refl
zero-behind (c ∷ cs) e =
    let h : eqb c 0 ≡ false = not-true (eqb c 0) (and_left (not (eqb c 0)) _ e) in
    rw (h, zero-behind cs (and_right (not (eqb c 0)) _ e))

pub text-is : (t : Text) → Ended t → is_text (text_bytes t) ≡ true
unfolding is_text
text-is no_text e = refl
text-is (text cs) e =
    let l : length (cs ++ (0 ∷ [])) ≡ length cs + 1 = length-append cs (0 ∷ []) in
    rw (zero-behind cs e, l, ne_eqb (length cs + 1) 0 (λ z. omega arith), eq-eqb (length cs + 1) (length cs + 1) refl)

-- the text that a datagram has from an index on
pub text-found : (t : Text) → (d : List ℕ) (start : ℕ) → drop start d ≡ text_bytes t → start ≤ length d → text_of (text_from start (length d)) d ≡ t
text-found no_text d start p h =
    let l : length d - start ≡ 0 = sym (length-drop start d) ∙ ap (λ (l : List ℕ). length l) p in
    rw (le-leb (length d) start (omega arith))
text-found (text cs) d start p h =
    let l : length d - start ≡ length cs + 1 = sym (length-drop start d) ∙ ap (λ (l : List ℕ). length l) p ∙ length-append cs (0 ∷ []) in
    rw (lt-leb (length d) start (omega arith), p) (ap text (take_at cs (0 ∷ []) (length d - start - 1) (omega arith)))

-- bytes of which the last is the first zero
last-zero : (ts : List ℕ) → suc (first_zero ts) ≡ length ts → (no_zero (take (first_zero ts) ts) ≡ true) × (take (first_zero ts) ts ++ (0 ∷ []) ≡ ts)
unfolding no_zero first_zero
last-zero [] e = absurd (omega arith)
last-zero (c ∷ ts) e = by-test (eqb c 0)
    (λ z. let l : suc 0 ≡ suc (length ts) = rw z at e in
    let n : c ≡ 0 = eqb-true c 0 z in
    let m : ts ≡ [] = nothing ts (omega (arith, l)) in
    rw (z, n, m) (refl, refl))
    (λ z. let l : suc (suc (first_zero ts)) ≡ suc (length ts) = rw z at e in
    let ih = last-zero ts (let q : suc (first_zero ts) ≡ length ts = omega (arith, l) in q) in
    rw z (rw (z, ih.0), ap (λ (l : List ℕ). c ∷ l) ih.1))
  where
    nothing : (l : List ℕ) → length l ≡ 0 → l ≡ []
    nothing [] p = refl
    nothing (x ∷ l) p = absurd (omega arith)

pub text-sound : (d : List ℕ) (start : ℕ) → start ≤ length d → is_text (drop start d) ≡ true
    → Ended (text_of (text_from start (length d)) d) × (text_bytes (text_of (text_from start (length d)) d) ≡ drop start d)
unfolding is_text
text-sound d start h e = by-test (leb (length d) start)
    (λ z. rw z (tt, sym (drop_of_length-le d {i = start} (omega (arith, leb-true (length d) start z)))))
    (λ z.
    let n = leb-false (length d) start z in
    let l : length (drop start d) ≡ length d - start = length-drop start d in
    let k : eqb (length (drop start d)) 0 ≡ false = ne_eqb (length (drop start d)) 0 (λ y. omega arith) in
    let q : eqb (first_zero (drop start d) + 1) (length (drop start d)) ≡ true = rw k at e in
    let f : first_zero (drop start d) + 1 ≡ length (drop start d) = eqb-true _ _ q in
    let g : length d - start - 1 ≡ first_zero (drop start d) = omega arith in
    let r = last-zero (drop start d) (sym (add-one (first_zero (drop start d))) ∙ f) in
    rw (z, g) r)
