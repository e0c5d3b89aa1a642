-- C-16 of document 02, for a tool: what the masked writes that are found one behind the other do to the old image, and
-- that none fewer do it.
use Rattle.std.specs.Prelude.{ℕ, zero, suc, ◌+◌, ◌-◌, ◌≤◌, ◌≡◌, cond, List, [], ◌∷◌, ltb, length, get_or}
use Rattle.std.specs.Int.Bits.{bit_and}
use Rattle.buffer.specs.Buffer.{AllBytes, Each}
use Rattle.cmd_fields.specs.Commands.{Pair}
use Rattle.exec_store.specs.Storing.{masked, store_masked}
use Rattle.mask_combine.specs.Combining.{untouched, Effect}
use Rattle.mask_diff_spec.specs.Differences.{difference, start_from, pairs_at}

-- A masked write: from an index of an image on.
pub record ImageWrite : Type 0 where
  pub start : ℕ
  pub pairs : List Pair

abbrev pub write_at : ℕ → List Pair → ImageWrite
write_at start pairs = record { start = start; pairs = pairs }

-- Each found behind the one before, until there is no more; n is a bound for their number.
unfoldable pub writes_from : ℕ → ℕ → List Pair → List ImageWrite
writes_from zero from e = []
writes_from (suc n) from e =
    let start = start_from from e in
    cond (ltb start (length e)) (write_at start (pairs_at start e) ∷ writes_from n (start + length (pairs_at start e)) e) []

abbrev pub all_writes : List ℕ → List ℕ → List ImageWrite
all_writes old new = writes_from (length old) 0 (difference old new)

-- What masked writes store, one after the other.
unfoldable pub store_all : List ImageWrite → List ℕ → List ℕ
store_all [] image = image
store_all (w ∷ more) image = store_all more (store_masked w.pairs w.start image)

-- Of two images of one length, in bytes.
pub record Updates (old new : List ℕ) : Type 0 where
  -- The writes make the old image the new one.
  pub does : store_all (all_writes old new) old ≡ new
  -- Each is one that a board takes: "1–32 pairs".
  pub sizes : Each (λ (w : ImageWrite). (1 ≤ length w.pairs) × (length w.pairs ≤ 32)) (all_writes old new)
  -- Together they are one mask and one data byte for each byte, and
  pub effect : Effect (length old) (difference old new)
  pub together : masked (difference old new) old ≡ new
  -- no masks and data that make the old image the new one leave a bit alone that these touch.
  pub least : (e : List Pair) → Effect (length old) e → masked e old ≡ new → (i : ℕ) → bit_and (get_or (difference old new) i untouched).mask (255 - (get_or e i untouched).mask) ≡ 0
  -- Fewer masked writes do not make the old image the new one.
  pub fewest : (ws : List ImageWrite) → Each (λ (w : ImageWrite). length w.pairs ≤ 32) ws → store_all ws old ≡ new → length (all_writes old new) ≤ length ws

abbrev pub AllUpdates : Type 0
AllUpdates = (old new : List ℕ) → length old ≡ length new → AllBytes old → AllBytes new → Updates old new
