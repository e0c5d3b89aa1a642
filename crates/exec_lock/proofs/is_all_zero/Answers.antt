-- `is_all_zero` meets its contract.
-- Assumes nothing.
use Rattle.std.proofs.Common.{rules, ◌≡◌, length, eqb, sym, ap, ◌∙◌}
use lib.ListN.{replicate}
use lib.Pointwise.{pointwise}
use Rattle.exec_lock.proofs.Laws.{zero-all}
use Rattle.exec_lock.proofs.is_all_zero.Goals as goal

pub returns : goal.returns
returns c =
    let six : length c.args.bytes ≡ 6 = search (rules, c.well_formed) in
    c.eq.ensures ∙ ap (λ n. pointwise eqb c.args.bytes (replicate n 0)) (sym six) ∙ zero-all c.args.bytes
