-- `rx_place::put_place` meets its contract: a place that is not there changes nothing.
-- Assumes nothing.
use Prim.Native.Nat.{◌*◌}
use native.Mathlib.Omega.{arith}
use Rattle.buffer.proofs.Laws.{placed-not}
use Rattle.rx_place_spec.specs.PlaceBytes.{place_bytes}
use Rattle.rx_place.proofs.put_place.Goals as goal

pub returns-else-i-places : goal.returns-else-i-places
returns-else-i-places c = let a = c.args in placed-not (8 * a.i) (place_bytes a.place) a.places.now (omega arith)
