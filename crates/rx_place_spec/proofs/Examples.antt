-- Worked examples: ages across the wrap, and a place at the ends of its 3,000 ticks.
-- Assumes nothing.
use mathlib.Core.Path.{◌≡◌, refl}
use mathlib.Core.Bool.{true, false}
use Rattle.rx_place_spec.specs.Place.{swallowing_for, place, held_for}
use Rattle.rx_place_spec.specs.Ticks.{age, is_due}

-- ---- a place

-- from 65,535 to 0 is one tick
one-tick : age 0 65535 ≡ 1
one-tick = refl

-- exactly 3,000 stays, and 3,001 is dropped: also across the wrap
stays : is_due 3000 (held_for 5 8 0) ≡ false
unfolding is_due
stays = refl

due : is_due 3001 (held_for 5 8 0) ≡ true
unfolding is_due
due = refl

stays_across : is_due 1464 (held_for 5 8 64000) ≡ false
unfolding is_due
stays_across = refl

due_across : is_due 1465 (held_for 5 8 64000) ≡ true
unfolding is_due
due_across = refl

-- what stands in a free place means nothing
free_place_lem : is_due 9999 (place false 200 9999 1 true) ≡ false
unfolding is_due
free_place_lem = refl

-- a place of a source that is being swallowed grows old like any other
swallowing-due : is_due 3001 (swallowing_for 5 0) ≡ true
unfolding is_due
swallowing-due = refl
