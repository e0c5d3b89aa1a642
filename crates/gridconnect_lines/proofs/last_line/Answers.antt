-- `last_line` meets its contract.
-- Assumes nothing.
use mathlib.Core.Path.{◌≡◌}
use mathlib.Core.List.{[], ◌++◌, append-nil}
use borrow.Author.Tests.{eq-eqb, ne_eqb}
use Rattle.gridconnect_input.specs.declared.Carry.{Carry}
use Rattle.gridconnect_parse.specs.Parsing.{Parsed, parse_of}
use Rattle.gridconnect_input.specs.Input.{unfinished, carry_of, begun_of, line, no_line, last_of}
use Rattle.gridconnect_input.proofs.ChunkLaws.{ends}
use Rattle.gridconnect_lines.proofs.last_line.Goals.{then-carry-eq0, else-carry-eq0}
use Rattle.gridconnect_lines.proofs.last_line.Goals as goal

module _ (carry : Carry) (s : Carry) (es : s ≡ carry_of []) where
  no_last : carry.len ≡ 0 → no_line s 0 ≡ last_of carry
  unfolding last_of unfinished
  no_last e = rw (eq-eqb carry.len 0 e, es)

  a-last : (p : Parsed) → (carry.len ≡ 0 → ⊥) → p ≡ parse_of (begun_of carry ++ []) → line p s 0 ≡ last_of carry
  unfolding last_of unfinished
  a-last p e ep = rw (ne_eqb carry.len 0 e, es, ep, append-nil (begun_of carry))

pub returns : goal.returns
returns c =
    let e : record { line = c.if-carry-eq0.line; carry = c.start.result; at = 0 } ≡ last_of c.args.carry =
    elim c.if-carry-eq0.branch [
      | then-carry-eq0 w ↦ rw w.line-is (no_last c.args.carry _ c.start.ensures.carry w.if-carry-eq0.true)
      | else-carry-eq0 w ↦ rw w.line-is (a-last c.args.carry _ c.start.ensures.carry _ w.if-carry-eq0.false w.parse_end.ensures)
    ]
    in
    record { value = e; ends = ends c.args.carry e }
