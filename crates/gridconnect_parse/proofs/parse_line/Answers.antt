-- `parse_line` meets its contract.
-- Assumes nothing.
use mathlib.Core.Path.{sym, ◌∙◌}
use native.Mathlib.Omega.{arith}
use borrow.Author.Rules.{rules}
use Rattle.gridconnect_parse.proofs.FormLaws.{formed-length}
use Rattle.gridconnect_parse.proofs.ParseLaws.{not-formed, no_header, no_data, a_line, read_back}
use Rattle.gridconnect_parse.proofs.parse_line.Goals as goal

pub returns-then-not-is_formed : goal.returns-then-not-is_formed
returns-then-not-is_formed c = record { value = not-formed _ (sym c.is_formed.ensures ∙ c.if-not-is_formed.true); read_back = read_back }

pub slice_bounds-read_number-end : goal.slice_bounds-read_number-end
slice_bounds-read_number-end c =
    let h = formed-length c.args.line.now (sym c.is_formed.ensures ∙ c.if-not-is_formed.false) in search rules

pub slice_bounds-read_bytes-count : goal.slice_bounds-read_bytes-count
slice_bounds-read_bytes-count c =
    let h = formed-length c.args.line.now (sym c.is_formed.ensures ∙ c.if-not-is_formed.false) in omega arith

pub slice_bounds-read_bytes-start : goal.slice_bounds-read_bytes-start
slice_bounds-read_bytes-start c =
    let h = formed-length c.args.line.now (sym c.is_formed.ensures ∙ c.if-not-is_formed.false) in search rules

pub returns-in_err-header : goal.returns-in_err-header
returns-in_err-header c = record {
  value = c.from_residual.ensures ∙ no_header _ (sym c.is_formed.ensures ∙ c.if-not-is_formed.false) (sym c.read_number.ensures.value ∙ c.in_err-header.was);
  read_back = read_back;
}

pub returns-in_err-len : goal.returns-in_err-len
returns-in_err-len c =
    let h = sym c.read_number.ensures.value ∙ c.in_ok-header.was in
    record {
      value = c.from_residual-in_err-len.ensures ∙ no_data _ (sym c.is_formed.ensures ∙ c.if-not-is_formed.false) h (sym c.read_bytes.ensures.value ∙ c.in_err-len.was);
      read_back = read_back;
    }

pub returns : goal.returns
returns c =
    let h = sym c.read_number.ensures.value ∙ c.in_ok-header.was in
    record {
      value = a_line _ (sym c.is_formed.ensures ∙ c.if-not-is_formed.false) h (sym c.read_bytes.ensures.value ∙ c.in_ok-len.was);
      read_back = read_back;
    }
