-- The eight free places hold nothing for anybody, whatever the pool holds.
use Rattle.std.proofs.Common.{refl}
use Rattle.rx_place_spec.specs.PlaceBytes.{places_in}
use Rattle.rx_spec.specs.Reception.{is_for}
use Rattle.rx_spec.proofs.Order.{join-order}
use Rattle.rx_spec.proofs.new_places.Goals as goal

pub returns-clause-places : goal.returns-clause-places
unfolding places_in
returns-clause-places c = refl

pub returns-clause-empty : goal.returns-clause-empty
unfolding is_for places_in
returns-clause-empty c = λ pool s. refl

pub returns-clause-fresh : goal.returns-clause-fresh
unfolding is_for places_in
returns-clause-fresh c =
    λ pool e. record { passes-b7 = refl; eight = refl; bytes = e; nothing-unfinished = λ s. refl }

pub returns-clause-order : goal.returns-clause-order
returns-clause-order c = join-order
