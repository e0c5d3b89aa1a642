-- Worked examples: the masked writes between two images.
-- Assumes nothing.
use Prim.Native.Nat.{ℕ}
use mathlib.Core.Path.{◌≡◌, refl}
use mathlib.Core.List.{List, [], ◌∷◌, ◌++◌}
use lib.ListN.{replicate}
use Rattle.cmd_fields.specs.Commands.{pair}
use Rattle.mask_combine.specs.Combining.{untouched, keeps_all}
use Rattle.mask_diff_spec.specs.Differences.{difference, before_first, up_to_last, lengths_differ, buffer_too_short, unchanged, change, next_change}
use Rattle.mask_diff_spec.specs.Writes.{write_at, writes_from, all_writes}

-- two lamps of one byte, one lit and one put out; the byte between two changes
some-change : next_change (0x00 ∷ 0x0F ∷ 0x55 ∷ 0xFF ∷ []) (0x00 ∷ 0x1E ∷ 0x55 ∷ 0x7F ∷ []) 0 64 ≡ change 1 (pair 0x11 0x10 ∷ untouched ∷ pair 0x80 0x00 ∷ [])
unfolding next_change difference before_first up_to_last
some-change = refl

-- looked for from behind it, and where nothing differs
none-behind : next_change (0x00 ∷ 0x0F ∷ []) (0x00 ∷ 0x1E ∷ []) 2 64 ≡ unchanged
unfolding next_change difference before_first up_to_last
none-behind = refl

none_at_all : next_change (0x07 ∷ []) (0x07 ∷ []) 0 64 ≡ unchanged
unfolding next_change difference before_first up_to_last
none_at_all = refl

-- the lengths are tested before the buffer
lengths_differ_lem : next_change (0x00 ∷ []) [] 0 0 ≡ lengths_differ
unfolding next_change
lengths_differ_lem = refl

no_room : next_change [] [] 0 63 ≡ buffer_too_short
unfolding next_change
no_room = refl

-- changes 31 bytes apart are one write, and 32 bytes apart are two
far : ℕ → List ℕ
far n = 0x01 ∷ (replicate n 0x00 ++ (0x01 ∷ []))

one-write : all_writes (replicate 32 0x00) (far 30) ≡ write_at 0 (pair 0x01 0x01 ∷ (keeps_all 30 ++ (pair 0x01 0x01 ∷ []))) ∷ []
unfolding writes_from difference before_first up_to_last far
one-write = refl

two_writes_lem : all_writes (replicate 33 0x00) (far 31) ≡ write_at 0 (pair 0x01 0x01 ∷ []) ∷ write_at 32 (pair 0x01 0x01 ∷ []) ∷ []
unfolding writes_from difference before_first up_to_last far
two_writes_lem = refl
