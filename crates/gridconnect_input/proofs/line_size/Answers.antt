-- `line_size` meets its contract. The invariant: the bytes passed, and those of the rest before its newline, are all before it.
-- Assumes nothing.
use Prim.Native.Nat.{ℕ, ◌+◌, ◌-◌, ◌≤◌}
use mathlib.Core.Path.{◌≡◌}
use mathlib.Core.List.{List}
use native.Mathlib.Omega.{arith}
use lib.ListN.{length, take, drop, get_or, length-drop}
use lib.Seq.{take_all}
use Rattle.gridconnect_input.specs.Newline.{until_newline}
use Rattle.gridconnect_input.proofs.NewlineLaws.{at_newline, passed_to}
use Rattle.gridconnect_input.proofs.line_size.Goals as goal

-- the first i bytes and k more of them are no newline
abbrev Passed : List ℕ → ℕ → ℕ → Type 0
Passed bytes i k = i + k + length (until_newline (drop (i + k) bytes)) ≡ length (until_newline bytes)

module _ (bytes : List ℕ) (i : ℕ) (fits : i + 4 ≤ length bytes)
    (none : i + length (until_newline (drop i bytes)) ≡ length (until_newline bytes)) where
  one : (get_or bytes i 0 ≡ 10 → ⊥) → Passed bytes i 1
  one a = omega (arith, passed_to bytes i (i + 1) (omega arith) (omega arith) a)

  two : (get_or bytes i 0 ≡ 10 → ⊥) → (get_or bytes (i + 1) 0 ≡ 10 → ⊥) → Passed bytes i 2
  two a b = let p = one a in omega (arith, passed_to bytes (i + 1) (i + 2) (omega arith) (omega arith) b)

  three : (get_or bytes i 0 ≡ 10 → ⊥) → (get_or bytes (i + 1) 0 ≡ 10 → ⊥) → (get_or bytes (i + 2) 0 ≡ 10 → ⊥) → Passed bytes i 3
  three a b d = let p = two a b in omega (arith, passed_to bytes (i + 2) (i + 3) (omega arith) (omega arith) d)

pub returns-then-rest-i-eq10 : goal.returns-then-rest-i-eq10
returns-then-rest-i-eq10 c =
    let i = c.loop-i.i in
    omega (arith, at_newline c.args.rest.now i (omega arith) c.if-rest-i-eq10.true)

pub returns-then-rest-i-eq10-2 : goal.returns-then-rest-i-eq10-2
returns-then-rest-i-eq10-2 c =
    let s = c.args.rest.now in
    let l = c.loop-i in
    let p = one s l.i (omega arith) l.invariant.1 c.if-rest-i-eq10.false in
    omega (arith, at_newline s (l.i + 1) (omega arith) c.if-rest-i-eq10-2.true)

pub returns-then-rest-i-eq10-3 : goal.returns-then-rest-i-eq10-3
returns-then-rest-i-eq10-3 c =
    let s = c.args.rest.now in
    let l = c.loop-i in
    let p = two s l.i (omega arith) l.invariant.1 c.if-rest-i-eq10.false c.if-rest-i-eq10-2.false in
    omega (arith, at_newline s (l.i + 2) (omega arith) c.if-rest-i-eq10-3.true)

pub returns-then-rest-i-eq10-4 : goal.returns-then-rest-i-eq10-4
returns-then-rest-i-eq10-4 c =
    let s = c.args.rest.now in
    let l = c.loop-i in
    let p = three s l.i (omega arith) l.invariant.1 c.if-rest-i-eq10.false c.if-rest-i-eq10-2.false c.if-rest-i-eq10-3.false in
    omega (arith, at_newline s (l.i + 3) (omega arith) c.if-rest-i-eq10-4.true)

pub loop-i-preserved : goal.loop-i-preserved
loop-i-preserved c =
    let s = c.args.rest.now in
    let l = c.loop-i in
    let p = three s l.i (omega arith) l.invariant.1 c.if-rest-i-eq10.false c.if-rest-i-eq10-2.false c.if-rest-i-eq10-3.false in
    (omega arith, omega (arith, passed_to s (l.i + 3) (l.i + 4) (omega arith) (omega arith) c.if-rest-i-eq10-4.false))

-- the rest as the code cuts it off
left : (bytes : List ℕ) (i : ℕ) → take (length bytes - i) (drop i bytes) ≡ drop i bytes
left bytes i = let l = length-drop i bytes in take_all (length bytes - i) (drop i bytes) (omega arith)

pub returns : goal.returns
returns c = let v = rw (left c.args.rest.now c.loop-i.i) at c.newline_in.ensures.value in omega arith

pub overflow_add-result-2 : goal.overflow_add-result-2
overflow_add-result-2 c =
    let h = rw (left c.args.rest.now c.loop-i.i) at c.newline_in.ensures.within in
    let l = length-drop c.loop-i.i c.args.rest.now in
    omega arith
