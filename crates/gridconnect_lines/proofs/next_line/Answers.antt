-- `next_line` meets its contract.
-- Assumes nothing.
use Prim.Native.Nat.{ℕ, ◌+◌, ◌≤◌, ◌<◌}
use mathlib.Core.Path.{◌≡◌, sym, ap, ◌∙◌}
use mathlib.Core.List.{List, [], ◌++◌}
use native.Mathlib.Omega.{arith}
use borrow.Author.Tests.{lt-ltb, le-ltb}
use lib.ListN.{length, take, drop, length-drop}
use lib.Seq.{take_all}
use Rattle.gridconnect_input.specs.declared.Carry.{Carry}
use Rattle.gridconnect_parse.specs.Parsing.{Parsed, parse_of}
use Rattle.gridconnect_input.specs.Newline.{until_newline}
use Rattle.gridconnect_input.specs.Input.{unfinished, carry_with, carry_of, begun_of, line, no_line, next_of}
use Rattle.gridconnect_input.proofs.StepLaws.{take-line, no_newline_lem, step}
use Rattle.gridconnect_input.proofs.ChunkLaws.{any_cuts}
use Rattle.gridconnect_lines.proofs.next_line.Goals as goal

-- the rest of the chunk as the code has it
module _ (carry : Carry) (chunk : List ℕ) (from n : ℕ) (rest : List ℕ) (er : rest ≡ take (length chunk) (drop from chunk)) (en : n ≡ length (until_newline rest)) where
  same_rest : rest ≡ drop from chunk
  same_rest = let l = length-drop from chunk in er ∙ take_all (length chunk) (drop from chunk) (omega arith)

  size : n ≡ length (until_newline (drop from chunk))
  size = en ∙ ap (λ (l : List ℕ). length (until_newline l)) same_rest

  a_line : (p : Parsed) (s : Carry) → n < length rest → p ≡ parse_of (begun_of carry ++ take n rest) → s ≡ carry_of [] → line p s (from + n + 1) ≡ next_of carry chunk from
  unfolding next_of unfinished
  a_line p s h ep es =
      let l : length rest ≡ length (drop from chunk) = ap length same_rest in
      let k : length (until_newline (drop from chunk)) < length (drop from chunk) = omega (arith, size) in
      let q : take n rest ≡ until_newline (drop from chunk) = ap (λ (r : List ℕ). take n r) same_rest ∙ ap (λ (m : ℕ). take m (drop from chunk)) size ∙ take-line (drop from chunk) k in
      let ep' : p ≡ parse_of (begun_of carry ++ until_newline (drop from chunk)) = ep ∙ ap (λ (r : List ℕ). parse_of (begun_of carry ++ r)) q in
      rw (lt-ltb _ _ k, ep', es, size)

  none : (s : Carry) → length rest ≤ n → s ≡ carry_with (begun_of carry ++ rest) → no_line s (length chunk) ≡ next_of carry chunk from
  unfolding next_of
  none s h es =
      let l : length rest ≡ length (drop from chunk) = ap length same_rest in
      let k : length (drop from chunk) ≤ length (until_newline (drop from chunk)) = omega (arith, size) in
      let q : rest ≡ until_newline (drop from chunk) = same_rest ∙ sym (no_newline_lem (drop from chunk) k) in
      let es' : s ≡ carry_with (begun_of carry ++ until_newline (drop from chunk)) = es ∙ ap (λ (r : List ℕ). carry_with (begun_of carry ++ r)) q in
      rw (le-ltb _ _ k, es')

pub returns-then-n-rest : goal.returns-then-n-rest
returns-then-n-rest c =
    let a = c.args in
    let e = a_line a.carry a.chunk.now a.from _ _ c.part-rest.ensures c.line_size-n.ensures _ _ c.if-n-rest.true c.parse_end-parsed.ensures c.start-nothing_begun.ensures.carry in
    record { value = e; step = step a.carry a.chunk.now a.from e; cuts = any_cuts }

pub returns : goal.returns
returns c =
    let a = c.args in
    let e = none a.carry a.chunk.now a.from _ _ c.part-rest.ensures c.line_size-n.ensures _ c.if-n-rest.false c.append.ensures in
    record { value = e; step = step a.carry a.chunk.now a.from e; cuts = any_cuts }
