-- Laws of a step through a chunk: the next line, and what is left to read.
-- Assumes nothing.
use Prim.Native.Nat.{ℕ, suc, ◌+◌, ◌-◌, ◌≤◌, ◌<◌}
use mathlib.Core.Path.{◌≡◌, refl, sym, ap, ◌∙◌}
use mathlib.Core.Bool.{Bool, true, false, cond}
use mathlib.Core.List.{List, [], ◌∷◌, ◌++◌, map, map-append, append_assoc, append-nil}
use native.Mathlib.Numerals.{add-one}
use native.Mathlib.Omega.{arith}
use lib.Dec.{ltb, eqb}
use lib.ListN.{length, take, drop, length-drop}
use lib.Seq.{take_all, take-append-add, take-append_seam, drop-drop, drop-length}
use borrow.Author.Tests.{ltb-true, ltb-false, eqb-true}
use Rattle.std.specs.Prelude.{Some, None}
use Rattle.gridconnect_input.specs.declared.Carry.{Carry}
use Rattle.gridconnect_input.specs.declared.Next.{Next}
use Rattle.gridconnect_parse.specs.Parsing.{Parsed, parse_of}
use Rattle.gridconnect_input.specs.Newline.{until_newline}
use Rattle.gridconnect_input.specs.Input.{completed, unfinished, complete_lines, last_line, carry_with, carry_of, begun_of, read_from, carry_after, line, no_line, next_of, lines_given, parsed_lines, FollowsOn, LineStep}
use Rattle.buffer.proofs.Choice.{by-test}
use Rattle.gridconnect_input.proofs.ChunkLaws.{either, completed-append, unfinished-append, read_behind, after-behind}

-- what goes on with each byte that is no newline goes on along the bytes before the next one
along : {A : Type 0} (f : List ℕ → List ℕ → A) → ((a : List ℕ) (x : ℕ) (more : List ℕ) → eqb x 10 ≡ false → f a (x ∷ more) ≡ f (a ++ x ∷ []) more)
    → (xs ys a : List ℕ) → f a (until_newline xs ++ ys) ≡ f (a ++ until_newline xs) ys
unfolding until_newline
along f step [] ys a = ap (λ (l : List ℕ). f l ys) (sym (append-nil a))
along f step (x ∷ xs) ys a =
    by-test (eqb x 10)
    (λ e. rw e (ap (λ (l : List ℕ). f l ys) (sym (append-nil a))))
    (λ e. rw e (step a x (until_newline xs ++ ys) e ∙ along f step xs ys (a ++ x ∷ []) ∙ ap (λ (l : List ℕ). f l ys) (append_assoc a (x ∷ []) (until_newline xs))))

lines-along : (xs ys a : List ℕ) → completed a (until_newline xs ++ ys) ≡ completed (a ++ until_newline xs) ys
unfolding completed
lines-along = along completed (λ a x more e. rw e)

left_along : (xs ys a : List ℕ) → unfinished a (until_newline xs ++ ys) ≡ unfinished (a ++ until_newline xs) ys
unfolding unfinished
left_along = along unfinished (λ a x more e. rw e)

to_newline : (xs : List ℕ) → length (until_newline xs) < length xs → xs ≡ until_newline xs ++ 10 ∷ drop (suc (length (until_newline xs))) xs
unfolding until_newline
to_newline [] h = absurd (omega arith)
to_newline (x ∷ xs) h =
    by-test (eqb x 10)
    (λ e. rw e (ap (λ (n : ℕ). n ∷ xs) (eqb-true x 10 e)))
    (λ e. let k = rw e at h in rw e (ap (λ (l : List ℕ). x ∷ l) (to_newline xs (omega arith))))

pub no_newline_lem : (xs : List ℕ) → length xs ≤ length (until_newline xs) → until_newline xs ≡ xs
unfolding until_newline
no_newline_lem [] h = refl
no_newline_lem (x ∷ xs) h =
    by-test (eqb x 10)
    (λ e. let k = rw e at h in absurd (omega arith))
    (λ e. let k = rw e at h in rw e (ap (λ (l : List ℕ). x ∷ l) (no_newline_lem xs (omega arith))))

pub take-line : (xs : List ℕ) → length (until_newline xs) < length xs → take (length (until_newline xs)) xs ≡ until_newline xs
take-line xs h = ap (λ (l : List ℕ). take (length (until_newline xs)) l) (to_newline xs h) ∙ take-append_seam (until_newline xs) (10 ∷ drop (suc (length (until_newline xs))) xs)

-- a step behind a text
behind : (past bytes : List ℕ) (carry : Carry) (next : Next) → read_from carry bytes ≡ lines_given next → carry_after carry bytes ≡ next.carry
    → carry ≡ carry_of past → FollowsOn past bytes next
behind past bytes carry next read after q =
    let own : map parse_of (completed (last_line past) bytes) ≡ lines_given next = sym (read_behind (last_line past) bytes) ∙ ap (λ (w : Carry). read_from w bytes) (sym q) ∙ read in
    record {
      frames = ap (λ (l : List (List ℕ)). map parse_of l) (completed-append past bytes []) ∙ map-append parse_of (complete_lines past) (completed (last_line past) bytes) ∙ ap (λ (l : List Parsed). parsed_lines past ++ l) own;
      carry = sym after ∙ ap (λ (w : Carry). carry_after w bytes) q ∙ after-behind (last_line past) bytes ∙ ap carry_with (sym (unfinished-append past bytes []));
    }

pub nothing_read : (carry : Carry) → read_from carry [] ≡ []
unfolding read_from completed
nothing_read carry = refl

pub nothing_left : (a : List ℕ) → carry_after (carry_with a) [] ≡ carry_with a
unfolding unfinished
nothing_left a = after-behind a []

-- a step that completes a line is made of the line and of where it ends
made_again : (b : Bool) (p : Parsed) (n : ℕ) (w : Carry) (m : ℕ) {next : Next} {q : Parsed} → next ≡ cond b (line p (carry_with []) n) (no_line w m) → next.line ≡ Some q
    → line q (carry_of []) next.at ≡ cond b (line p (carry_with []) n) (no_line w m)
unfolding unfinished
made_again true p n w m {q = q} e f = let s : Some p ≡ Some q = sym (ap (λ (x : Next). x.line) e) ∙ f in let o : p ≡ q = cc in rw (e, o)
made_again false p n w m {q = q} e f = let s : None ≡ Some q = sym (ap (λ (x : Next). x.line) e) ∙ f in absurd cc

pub line-again : (carry : Carry) (chunk : List ℕ) (from : ℕ) {next : Next} {q : Parsed} → next ≡ next_of carry chunk from → next.line ≡ Some q
    → line q (carry_of []) next.at ≡ next_of carry chunk from
unfolding next_of
line-again carry chunk from e f =
    made_again (ltb (length (until_newline (drop from chunk))) (length (drop from chunk))) _ _ _ _ e f

-- behind a carry: a part of a line and its newline, and a part without
module _ (carry : Carry) (xs : List ℕ) where
  read-line : (more : List ℕ) → read_from carry (until_newline xs ++ 10 ∷ more) ≡ parse_of (begun_of carry ++ until_newline xs) ∷ read_from (carry_with []) more
  unfolding read_from completed
  read-line more = ap (λ (l : List (List ℕ)). map parse_of l) (lines-along xs (10 ∷ more) (begun_of carry))

  after_line : (more : List ℕ) → carry_after carry (until_newline xs ++ 10 ∷ more) ≡ carry_after (carry_with []) more
  unfolding carry_after unfinished
  after_line more = ap carry_with (left_along xs (10 ∷ more) (begun_of carry))

  read-part : read_from carry (until_newline xs) ≡ []
  unfolding read_from completed
  read-part = rw (← append-nil (until_newline xs)) (ap (λ (l : List (List ℕ)). map parse_of l) (lines-along xs [] (begun_of carry)))

  after-part : carry_after carry (until_newline xs) ≡ carry_with (begun_of carry ++ until_newline xs)
  unfolding carry_after unfinished
  after-part = ap (λ (l : List ℕ). carry_with (unfinished (begun_of carry) l)) (sym (append-nil (until_newline xs))) ∙ ap carry_with (left_along xs [] (begun_of carry))

module _ (carry : Carry) (chunk : List ℕ) (from : ℕ) where
  found : length (until_newline (drop from chunk)) < length (drop from chunk)
      → LineStep carry chunk from (line (parse_of (begun_of carry ++ until_newline (drop from chunk))) (carry_with []) (from + length (until_newline (drop from chunk)) + 1))
  found h =
      let rest : List ℕ = drop from chunk in
      let part : List ℕ = until_newline rest in
      let more : List ℕ = drop (suc (length part)) rest in
      let at : ℕ = from + length part + 1 in
      let long : length rest ≡ length chunk - from = length-drop from chunk in
      let whole : rest ≡ part ++ 10 ∷ more = to_newline rest h in
      let next : from + suc (length part) ≡ at = omega (arith, add-one (length part)) in
      let left : more ≡ drop at chunk = drop-drop (suc (length part)) from chunk ∙ ap (λ (n : ℕ). drop n chunk) next in
      let size : at - from ≡ length part + 1 = omega arith in
      let bytes : take (at - from) rest ≡ part ++ 10 ∷ [] = ap (λ (n : ℕ). take n rest) size ∙ ap (λ (l : List ℕ). take (length part + 1) l) whole ∙ take-append-add part (10 ∷ more) 1 in
      let p : Parsed = parse_of (begun_of carry ++ part) in
      record {
        behind = λ past. behind past (take (at - from) rest) carry (line p (carry_with []) at) (rw bytes (read-line carry rest [] ∙ ap (λ (l : List Parsed). p ∷ l) (nothing_read (carry_with [])))) (rw bytes (after_line carry rest [] ∙ nothing_left []));
        lines = ap (λ (l : List ℕ). read_from carry l) whole ∙ read-line carry rest more ∙ ap (λ (l : List ℕ). p ∷ read_from (carry_with []) l) left;
        left = ap (λ (l : List ℕ). carry_after carry l) whole ∙ after_line carry rest more ∙ ap (λ (l : List ℕ). carry_after (carry_with []) l) left;
        onward = λ _. (omega arith, omega arith);
        ended = λ e. absurd cc;
      }

  none : length (drop from chunk) ≤ length (until_newline (drop from chunk)) → LineStep carry chunk from (no_line (carry_with (begun_of carry ++ until_newline (drop from chunk))) (length chunk))
  none h =
      let rest : List ℕ = drop from chunk in
      let begun : List ℕ = begun_of carry ++ until_newline rest in
      let long : length rest ≡ length chunk - from = length-drop from chunk in
      let whole : until_newline rest ≡ rest = no_newline_lem rest h in
      let read : read_from carry rest ≡ [] = ap (λ (l : List ℕ). read_from carry l) (sym whole) ∙ read-part carry rest in
      let after : carry_after carry rest ≡ carry_with begun = ap (λ (l : List ℕ). carry_after carry l) (sym whole) ∙ after-part carry rest in
      let bytes : take (length chunk - from) rest ≡ rest = take_all (length chunk - from) rest (omega arith) in
      let none : drop (length chunk) chunk ≡ [] = drop-length chunk in
      record {
        behind = λ past. behind past (take (length chunk - from) rest) carry (no_line (carry_with begun) (length chunk)) (rw bytes read) (rw bytes after);
        lines = read ∙ sym (ap (λ (l : List ℕ). read_from (carry_with begun) l) none ∙ nothing_read (carry_with begun));
        left = after ∙ sym (ap (λ (l : List ℕ). carry_after (carry_with begun) l) none ∙ nothing_left begun);
        onward = λ e. absurd cc;
        ended = λ _. (read, sym after);
      }

  pub step : {next : Next} → next ≡ next_of carry chunk from → LineStep carry chunk from next
  unfolding next_of
  step e =
      rw e
      (either (λ (t : Bool). LineStep carry chunk from (cond t (line (parse_of (begun_of carry ++ until_newline (drop from chunk))) (carry_with []) (from + length (until_newline (drop from chunk)) + 1)) (no_line (carry_with (begun_of carry ++ until_newline (drop from chunk))) (length chunk))))
      (ltb (length (until_newline (drop from chunk))) (length (drop from chunk)))
      (λ t. found (ltb-true _ _ t))
      (λ t. none (ltb-false _ _ t)))
