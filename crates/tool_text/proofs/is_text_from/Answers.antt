-- `is_text_from` meets its contract.
-- Assumes nothing.
use Rattle.std.proofs.Common.{◌∙◌, sym, eqb, arith, rules, tests}
use Rattle.std.proofs.lemmas.Iterator.{YieldsList-from_slice}
use Rattle.std.proofs.lemmas.Iterator.Search.{position_from_yields_List}
use Rattle.tool_text.proofs.TextLaws.{no_bytes, text-by-position, no_zero-byte}
use Rattle.tool_text.proofs.is_text_from.Goals as goal

pub returns-in_default : goal.returns-in_default
returns-in_default c = let h = c.in_default.ensures.lookup in no_bytes c.args.datagram.now c.args.start (grind arith)

pub returns-in-Some-position : goal.returns-in-Some-position
returns-in-Some-position c =
    let found = position_from_yields_List (λ b. eqb b 0) _ _ c.position.result c.position.ensures.ran (YieldsList-from_slice _ c.iter.ensures.rest) (λ x b q k. search (rules, tests)) in
    text-by-position c.args.datagram.now c.args.start c.in-Some.bytes.now _ (c.in-Some.ensures.lookup.0.2) (sym c.in-Some-position.is ∙ found)

pub returns-in-None : goal.returns-in-None
returns-in-None c =
    let found = position_from_yields_List (λ b. eqb b 0) _ _ c.position.result c.position.ensures.ran (YieldsList-from_slice _ c.iter.ensures.rest) (λ x b q k. search (rules, tests)) in
    c.is_empty.ensures ∙ no_zero-byte c.args.datagram.now c.args.start c.in-Some.bytes.now c.in-Some.ensures.lookup.0.2 (sym c.in-None.is ∙ found)
