-- Worked examples: single lamps in one byte.
-- Assumes nothing.
use mathlib.Core.Path.{◌≡◌, refl}
use mathlib.Core.List.{[], ◌∷◌}
use Rattle.cmd_fields.specs.Commands.{pair}
use Rattle.mask_combine.specs.Combining.{untouched, plain, zero_outside, put_together, together, keeps_all}

-- lamps 0 and 7, by two tools
two_lamps : put_together (pair 0x01 0x01) (pair 0x80 0x80) ≡ pair 0x81 0x81
two_lamps = refl

-- lamps 0 to 3 lit, and then 0 and 1 put out: of a bit that both touch the later is seen
later-wins : put_together (pair 0x0F 0x0F) (pair 0x03 0x00) ≡ pair 0x0F 0x0C
later-wins = refl

-- one lamp behind a plain write, and before it
lamp_behind : put_together (plain 0x54) (pair 0x01 0x01) ≡ pair 0xFF 0x55
lamp_behind = refl

lamp_before : put_together (pair 0x01 0x01) (plain 0x54) ≡ pair 0xFF 0x54
lamp_before = refl

-- data outside the mask, and a mask of zero
outside : zero_outside (pair 0x0F 0xFF) ≡ pair 0x0F 0x0F
outside = refl

no_mask : zero_outside (pair 0x00 0xFF) ≡ untouched
no_mask = refl

-- byte by byte, the last included
each_byte : together (keeps_all 2) (pair 0x01 0x00 ∷ pair 0x10 0x10 ∷ []) ≡ pair 0x01 0x00 ∷ pair 0x10 0x10 ∷ []
unfolding together
each_byte = refl
