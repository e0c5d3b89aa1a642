-- Laws of an input as lines: the split is right, and how the input is cut into chunks plays no part.
-- Assumes nothing.
use Prim.Native.Nat.{ℕ}
use mathlib.Core.Path.{◌≡◌, refl, sym, ap, ◌∙◌}
use mathlib.Core.Bool.{Bool, true, false, cond, not}
use mathlib.Core.List.{List, [], ◌∷◌, ◌++◌, map, map-append, flatten, append_assoc, append-nil}
use lib.Dec.{eqb, eqb-suc-zero}
use lib.ListN.{length, take}
use borrow.Author.Tests.{eqb-true}
use Rattle.gridconnect_input.specs.declared.Carry.{Carry}
use Rattle.gridconnect_input.specs.declared.Next.{Next}
use Rattle.gridconnect_parse.specs.Parsing.{Parsed, parse_of}
use Rattle.gridconnect_input.specs.Input.{completed, unfinished, complete_lines, last_line, end_line, lines_of, no_newline, none_with_newline, joined_lines, Split, cut_off, carry_with, begun_of, read_from, carry_after, read_chunks, carry_after_chunks, last_of, lines_given, AnyCuts, InputEnds}
use Rattle.buffer.proofs.Choice.{and_left, and_right, by-test}
use Rattle.gridconnect_input.proofs.CutLaws.{same-cut, cut_twice, parse_same, begun-with, carry_same, parse_carry}

-- ---- one cut

choose : {A B : Type 0} (f : A → B) (t : Bool) {x x' y y' : A} → f x ≡ f x' → f y ≡ f y' → f (cond t x y) ≡ f (cond t x' y')
choose f true p q = p
choose f false p q = q

-- lines and carry hang on what is kept of the beginning alone
read_same : (xs a b : List ℕ) → cut_off a ≡ cut_off b → map parse_of (completed a xs) ≡ map parse_of (completed b xs)
unfolding completed
read_same [] a b e = refl
read_same (x ∷ xs) a b e =
    choose (λ (l : List (List ℕ)). map parse_of l) (eqb x 10) (ap (λ (p : Parsed). p ∷ map parse_of (completed [] xs)) (parse_same a b e)) (read_same xs (a ++ x ∷ []) (b ++ x ∷ []) (same-cut a b (x ∷ []) e))

left-same : (xs a b : List ℕ) → cut_off a ≡ cut_off b → carry_with (unfinished a xs) ≡ carry_with (unfinished b xs)
unfolding unfinished
left-same [] a b e = carry_same a b e
left-same (x ∷ xs) a b e = choose carry_with (eqb x 10) refl (left-same xs (a ++ x ∷ []) (b ++ x ∷ []) (same-cut a b (x ∷ []) e))

cut_begun : (a : List ℕ) → cut_off (begun_of (carry_with a)) ≡ cut_off a
cut_begun a = ap (λ (l : List ℕ). cut_off l) (begun-with a) ∙ cut_twice a

-- by a test, whose outcome is told
pub either : (P : Bool → Type 0) (t : Bool) → (t ≡ true → P true) → (t ≡ false → P false) → P t
either P true p q = p refl
either P false p q = q refl

pub completed-append : (xs ys a : List ℕ) → completed a (xs ++ ys) ≡ completed a xs ++ completed (unfinished a xs) ys
unfolding completed unfinished
completed-append [] ys a = refl
completed-append (x ∷ xs) ys a =
    let b : List ℕ = a ++ x ∷ [] in
    either (λ (t : Bool). cond t (a ∷ completed [] (xs ++ ys)) (completed b (xs ++ ys)) ≡ cond t (a ∷ completed [] xs) (completed b xs) ++ completed (cond t (unfinished [] xs) (unfinished b xs)) ys)
    (eqb x 10) (λ _. ap (λ (l : List (List ℕ)). a ∷ l) (completed-append xs ys [])) (λ _. completed-append xs ys b)

pub unfinished-append : (xs ys a : List ℕ) → unfinished a (xs ++ ys) ≡ unfinished (unfinished a xs) ys
unfolding unfinished
unfinished-append [] ys a = refl
unfinished-append (x ∷ xs) ys a =
    let b : List ℕ = a ++ x ∷ [] in
    either (λ (t : Bool). cond t (unfinished [] (xs ++ ys)) (unfinished b (xs ++ ys)) ≡ unfinished (cond t (unfinished [] xs) (unfinished b xs)) ys)
    (eqb x 10) (λ _. unfinished-append xs ys []) (λ _. unfinished-append xs ys b)

-- behind a text, the chunk is read as that text's continuation
pub read_behind : (a xs : List ℕ) → read_from (carry_with a) xs ≡ map parse_of (completed a xs)
unfolding read_from
read_behind a xs = read_same xs (begun_of (carry_with a)) a (cut_begun a)

pub after-behind : (a xs : List ℕ) → carry_after (carry_with a) xs ≡ carry_with (unfinished a xs)
unfolding carry_after
after-behind a xs = left-same xs (begun_of (carry_with a)) a (cut_begun a)

pub read-cut : (carry : Carry) (xs ys : List ℕ) → read_from carry (xs ++ ys) ≡ read_from carry xs ++ read_from (carry_after carry xs) ys
unfolding read_from carry_after
read-cut carry xs ys =
    let a = begun_of carry in
    ap (λ (l : List (List ℕ)). map parse_of l) (completed-append xs ys a)
    ∙ map-append parse_of (completed a xs) (completed (unfinished a xs) ys)
    ∙ ap (λ (l : List Parsed). map parse_of (completed a xs) ++ l) (sym (read_behind (unfinished a xs) ys))

pub after-cut : (carry : Carry) (xs ys : List ℕ) → carry_after carry (xs ++ ys) ≡ carry_after (carry_after carry xs) ys
unfolding carry_after
after-cut carry xs ys = ap carry_with (unfinished-append xs ys (begun_of carry)) ∙ sym (after-behind (unfinished (begun_of carry) xs) ys)

-- ---- chunk after chunk

chunks_read : (chunks : List (List ℕ)) (a : List ℕ) → read_chunks (carry_with a) chunks ≡ map parse_of (completed a (flatten chunks))
unfolding read_chunks completed flatten
chunks_read [] a = refl
chunks_read (chunk ∷ more) a =
    let rest : read_chunks (carry_after (carry_with a) chunk) more ≡ map parse_of (completed (unfinished a chunk) (flatten more)) = rw (after-behind a chunk) (chunks_read more (unfinished a chunk)) in
    rw (read_behind a chunk, rest) (sym (map-append parse_of (completed a chunk) (completed (unfinished a chunk) (flatten more))) ∙ ap (λ (l : List (List ℕ)). map parse_of l) (sym (completed-append chunk (flatten more) a)))

chunks_carry : (chunks : List (List ℕ)) (a : List ℕ) → carry_after_chunks (carry_with a) chunks ≡ carry_with (unfinished a (flatten chunks))
unfolding carry_after_chunks unfinished flatten
chunks_carry [] a = refl
chunks_carry (chunk ∷ more) a = rw (after-behind a chunk) (chunks_carry more (unfinished a chunk) ∙ ap carry_with (sym (unfinished-append chunk (flatten more) a)))

-- ---- the end of the input

at_end_lem : (a : List ℕ) → lines_given (last_of (carry_with a)) ≡ map parse_of (end_line a)
unfolding last_of end_line
at_end_lem [] = refl
at_end_lem (x ∷ a) = rw (eqb-suc-zero (length (take 28 a))) (ap (λ (p : Parsed). p ∷ []) (parse_carry (x ∷ a) refl))

pub ends : (carry : Carry) {next : Next} → next ≡ last_of carry → InputEnds carry next
ends carry e text q = rw (e, q) (at_end_lem (last_line text))

-- ---- the split is right

rejoined : (xs a : List ℕ) → joined_lines (completed a xs) (unfinished a xs) ≡ a ++ xs
unfolding joined_lines completed unfinished
rejoined [] a = sym (append-nil a)
rejoined (x ∷ xs) a =
    by-test (eqb x 10)
    (λ e. rw (e, rejoined xs [], eqb-true x 10 e))
    (λ e. rw e (rejoined xs (a ++ x ∷ []) ∙ append_assoc a (x ∷ []) xs))

no_newline_yet : (a : List ℕ) (x : ℕ) → no_newline a ≡ true → eqb x 10 ≡ false → no_newline (a ++ x ∷ []) ≡ true
unfolding no_newline
no_newline_yet [] x h e = rw e
no_newline_yet (b ∷ a) x h e = rw (and_left (not (eqb b 10)) (no_newline a) h) (no_newline_yet a x (and_right (not (eqb b 10)) (no_newline a) h) e)

no_newlines : (xs a : List ℕ) → no_newline a ≡ true → (none_with_newline (completed a xs) ≡ true) × (no_newline (unfinished a xs) ≡ true)
unfolding completed unfinished no_newline none_with_newline
no_newlines [] a h = (refl, h)
no_newlines (x ∷ xs) a h =
    by-test (eqb x 10)
    (λ e. let r = no_newlines xs [] refl in rw e (rw h r.0, r.1))
    (λ e. rw e (no_newlines xs (a ++ x ∷ []) (no_newline_yet a x h e)))

split : (text : List ℕ) → Split text
unfolding no_newline
split text = let r = no_newlines text [] refl in record { same = rejoined text []; lines = r.0; last = r.1 }

chunks_all : (chunks : List (List ℕ)) → read_chunks (carry_with []) chunks ++ lines_given (last_of (carry_after_chunks (carry_with []) chunks)) ≡ map parse_of (lines_of (flatten chunks))
chunks_all chunks =
    let text : List ℕ = flatten chunks in
    rw (chunks_read chunks [], chunks_carry chunks [], at_end_lem (last_line text)) (sym (map-append parse_of (complete_lines text) (end_line (last_line text))))

pub any_cuts : AnyCuts
unfolding unfinished
any_cuts = record { lines = λ chunks. chunks_read chunks []; carry = λ chunks. chunks_carry chunks []; all = chunks_all; read = read-cut; after = after-cut; split = split }
