-- `rx_place_check::passes_at` meets its contract: a place that is held is one of the eight.
-- Assumes nothing.
use Rattle.std.proofs.Common.{sym, ◌∙◌, arith}
use Rattle.rx_place_check.proofs.BesideLaws.{held-there}
use Rattle.rx_place_check.proofs.passes_at.Goals as goal

pub is_among-requires : goal.is_among-requires
is_among-requires g c =
    let there = held-there c.args.places.now c.args.i (sym c.is_held.ensures ∙ c.if-not-is_held.false) in
    omega arith
