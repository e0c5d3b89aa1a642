-- C-16 of document 02, "Writes that add up": one mask and one data byte for each byte of memory, and two such lists put
-- together.
use Rattle.std.specs.Prelude.{ℕ, ◌-◌, ◌<◌, ◌≡◌, List, [], ◌∷◌, length, get_or, replicate}
use Rattle.std.specs.Int.Bits.{bit_and, bit_or}
use Rattle.buffer.specs.Buffer.{AllBytes}
use Rattle.cmd_fields.specs.Commands.{Pair, pair}
use Rattle.exec_store.specs.Storing.{mask_byte, masked}

-- ---- one byte

-- The mask and the data byte of a byte that is kept.
abbrev pub untouched : Pair
untouched = pair 0 0

-- "a plain write having mask 0xFF"
abbrev pub plain : ℕ → Pair
plain byte = pair 0xFF byte

-- "one data byte (zero outside the mask)": those of a pair of a masked write, whose own data may be anything there.
abbrev pub zero_outside : Pair → Pair
zero_outside p = pair p.mask (bit_and p.value p.mask)

-- "put together", "later writes winning bit by bit": what either touches is touched, and the later's data go over the
-- earlier's as they go over a byte of memory.
abbrev pub put_together : Pair → Pair → Pair
put_together earlier later = pair (bit_or earlier.mask later.mask) (mask_byte earlier.value later)

-- Mask and data are bytes, and the data are "zero outside the mask".
pub record Proper (p : Pair) : Type 0 where
  pub mask : p.mask < 256
  pub value : p.value < 256
  pub outside : bit_and p.value (255 - p.mask) ≡ 0

-- ---- a list of them, one for each byte of memory

-- "these, put together for two lists": byte by byte. (The lists are of one length, that of memory.)
unfoldable pub together : List Pair → List Pair → List Pair
together [] later = later
together (e ∷ earlier) [] = e ∷ earlier
together (e ∷ earlier) (l ∷ later) = put_together e l ∷ together earlier later

-- Nothing: every byte of a memory of m bytes is kept.
abbrev pub keeps_all : ℕ → List Pair
keeps_all m = replicate m untouched

abbrev pub AllProper : List Pair → Type 0
AllProper e = (i : ℕ) → Proper (get_or e i untouched)

-- "touch no common bit of memory": of no byte the same bit is at 1 in both masks.
abbrev pub NoCommonBit : List Pair → List Pair → Type 0
NoCommonBit e f = (i : ℕ) → bit_and (get_or e i untouched).mask (get_or f i untouched).mask ≡ 0

-- One mask and one data byte for each byte of a memory of m bytes.
pub record Effect (m : ℕ) (e : List Pair) : Type 0 where
  pub size : length e ≡ m
  pub proper : AllProper e

-- ---- what holds of them, for a memory of m bytes. What a list of pairs does to a content of memory is `masked`, as for the pairs of a masked write.

pub record AddUp (m : ℕ) : Type 0 where
  -- Put together, they do what the earlier and then the later do,
  pub in_turn : (e f : List Pair) (memory : List ℕ) → Effect m e → Effect m f → length memory ≡ m → masked (together e f) memory ≡ masked f (masked e memory)
  -- and are one mask and one data byte for each byte again.
  pub closed : (e f : List Pair) → Effect m e → Effect m f → Effect m (together e f)
  -- They "group as one pleases".
  pub groups : (e f g : List Pair) → Effect m e → Effect m f → Effect m g → together (together e f) g ≡ together e (together f g)
  -- Nothing put together with something is that something.
  pub empty : Effect m (keeps_all m)
  pub before : (e : List Pair) → Effect m e → together (keeps_all m) e ≡ e
  pub behind : (e : List Pair) → Effect m e → together e (keeps_all m) ≡ e
  -- Where they touch no common bit, either may be the earlier.
  pub either_order : (e f : List Pair) → Effect m e → Effect m f → NoCommonBit e f → together e f ≡ together f e
  -- What touches no bit of either touches none of the two put together.
  pub apart : (e f g : List Pair) → Effect m e → Effect m f → Effect m g → NoCommonBit e g → NoCommonBit f g → NoCommonBit (together e f) g
  -- Different lists do something different to some content: what is done to every content has one such list.
  pub unique : (e f : List Pair) → Effect m e → Effect m f →
      ((memory : List ℕ) → length memory ≡ m → AllBytes memory → masked e memory ≡ masked f memory) → e ≡ f

abbrev pub PairsAddUp : Type 0
PairsAddUp = (m : ℕ) → AddUp m

-- ---- a mask and a data byte in two bytes that are lent

abbrev pub pair_in : List ℕ → Pair
pair_in bytes = pair (get_or bytes 0 0) (get_or bytes 1 0)

abbrev pub mask_and_data : Pair → List ℕ
mask_and_data p = p.mask ∷ p.value ∷ []
