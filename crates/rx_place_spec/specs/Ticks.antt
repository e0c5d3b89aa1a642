-- C-14 of document 02: "the driver's tick, a free-running 16-bit count that goes from 65,535 to 0", and the unfinished
-- datagrams that are dropped by it.
use Rattle.std.specs.Prelude.{ℕ, ◌+◌, ◌-◌, ◌%◌, Bool, cond, ◌&&◌, List, map, ltb}
use Rattle.rx_place_spec.specs.declared.Place.{Place}
use Rattle.rx_place_spec.specs.Place.{free_place}

-- The tick at a time: times "count on past 65,535".
abbrev pub tick_at : ℕ → ℕ
tick_at time = time % 65536

-- How many ticks `now` is after `then`, both of 16 bits: their wrapping difference, so that from 65,535 to 0 is one
-- tick.
abbrev pub age : ℕ → ℕ → ℕ
age now then = (now + 65536 - then) % 65536

-- "an unfinished datagram whose source's last accepted frame is more than 3,000 ticks back is dropped ..; exactly 3,000
-- stays": whether the place p is held and due at the tick `now`, though its source be swallowed: "C-14's drop, 0x2020
-- and B7 count such places too". A free place is never due, whatever tick stands in it.
unfoldable pub is_due : ℕ → Place → Bool
is_due now p = p.held && ltb 3000 (age now p.tick)

-- The places with what is due dropped. "freed room is used again"
abbrev pub after_tick : ℕ → Place → Place
after_tick now p = cond (is_due now p) free_place p

unfoldable pub drop_due : ℕ → List Place → List Place
drop_due now ps = map (after_tick now) ps
