-- `rx_place_check::is_among` meets its contract.
-- Assumes nothing.
use Rattle.std.proofs.Common.{sym, ◌∙◌, arith}
use Rattle.rx_place_spec.specs.PlaceBytes.{places_in}
use Rattle.rx_place_spec.proofs.ByteLaws.{places-length}
use Rattle.rx_place_check.proofs.BesideLaws.{has_next, has_later}
use Rattle.rx_place_check.proofs.is_among.Goals as goal

pub returns-then-is_for : goal.returns-then-is_for
returns-then-is_for c =
    let a = c.args in
    sym (has_later a.source c.loop-i.i a.n (places_in a.places.now) (omega arith) (sym c.is_for.ensures ∙ c.if-is_for.true))

pub loop-i-preserved : goal.loop-i-preserved
loop-i-preserved c =
    let a = c.args in
    let l = places-length a.places.now in
    has_next (places_in a.places.now) c.loop-i.i (omega arith) a.source ∙ rw (c.loop-i.invariant, sym c.is_for.ensures ∙ c.if-is_for.false)
