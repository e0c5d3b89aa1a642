-- Worked examples: a board with a memory of four bytes, whose last two are seen through two spaces.
-- Assumes nothing.
use Prim.Native.Nat.{ℕ}
use mathlib.Core.Path.{◌≡◌, refl}
use mathlib.Core.Bool.{true, false}
use mathlib.Core.List.{List, [], ◌∷◌}
use Rattle.space_table.specs.declared.Space.{Space}
use Rattle.space_lookup.specs.Description.{find_space}
use Rattle.cmd_fields.specs.Commands.{Pair, pair, pairs_of, kind_of_command, rest_of}
use Rattle.cmd_decode.specs.Decoding.{decode_write, decode_masked, decode_kind, decode}
use Rattle.mask_combine.specs.Combining.{untouched, together, keeps_all}
use Rattle.mask_effects_spec.specs.Effects.{written_by, is_write, is_accepted_write, effect_of, effect_of_all}

spaces : List Space
spaces =
    record { number = 0xFD; read_only = false; in_flash = false; lowest = 0; highest = 3; offset = 0 }
    ∷ record { number = 0x10; read_only = false; in_flash = false; lowest = 0x100; highest = 0x101; offset = 2 }
    ∷ []

-- lamp 0 of byte 2, by 0xFD; lamp 7 of the same byte, by address 0x100 of space 0x10; the same byte plainly
lamp0 : List ℕ
lamp0 = 0x20 ∷ 0x09 ∷ 0 ∷ 0 ∷ 0 ∷ 2 ∷ 0x01 ∷ 0x01 ∷ []

lamp7 : List ℕ
lamp7 = 0x20 ∷ 0x08 ∷ 0 ∷ 0 ∷ 1 ∷ 0 ∷ 0x10 ∷ 0x80 ∷ 0xFF ∷ []

byte : List ℕ
byte = 0x20 ∷ 0x01 ∷ 0 ∷ 0 ∷ 0 ∷ 2 ∷ 0x54 ∷ []

-- two bytes at the last address, of which one is outside; and Update Complete
past : List ℕ
past = 0x20 ∷ 0x01 ∷ 0 ∷ 0 ∷ 0 ∷ 3 ∷ 0x11 ∷ 0x22 ∷ []

complete : List ℕ
complete = 0x20 ∷ 0xA8 ∷ []

abbrev at_byte2 : Pair → List Pair
at_byte2 p = untouched ∷ untouched ∷ p ∷ untouched ∷ []

lamp_0 : effect_of spaces 4 lamp0 ≡ at_byte2 (pair 0x01 0x01)
unfolding written_by decode kind_of_command decode_kind decode_masked rest_of pairs_of find_space spaces lamp0
lamp_0 = refl

lamp_7 : effect_of spaces 4 lamp7 ≡ at_byte2 (pair 0x80 0x80)
unfolding written_by decode kind_of_command decode_kind decode_masked rest_of pairs_of find_space spaces lamp7
lamp_7 = refl

both_lamps : effect_of_all spaces 4 (lamp0 ∷ lamp7 ∷ []) ≡ at_byte2 (pair 0x81 0x81)
unfolding effect_of_all together written_by decode kind_of_command decode_kind decode_masked rest_of pairs_of find_space spaces lamp0 lamp7
both_lamps = refl

-- the later of two wins
lamp_last : effect_of_all spaces 4 (byte ∷ lamp0 ∷ []) ≡ at_byte2 (pair 0xFF 0x55)
unfolding effect_of_all together written_by decode kind_of_command decode_kind decode_write decode_masked rest_of pairs_of find_space spaces byte lamp0
lamp_last = refl

byte_last : effect_of_all spaces 4 (lamp0 ∷ byte ∷ []) ≡ at_byte2 (pair 0xFF 0x54)
unfolding effect_of_all together written_by decode kind_of_command decode_kind decode_write decode_masked rest_of pairs_of find_space spaces byte lamp0
byte_last = refl

-- what is refused does nothing, and so does what is no write
past_end : effect_of spaces 4 past ≡ keeps_all 4
unfolding written_by decode kind_of_command decode_kind decode_write rest_of find_space spaces past
past_end = refl

past_refused : is_accepted_write spaces past ≡ false
unfolding written_by decode kind_of_command decode_kind decode_write rest_of find_space spaces past
past_refused = refl

byte_accepted : is_accepted_write spaces byte ≡ true
unfolding written_by decode kind_of_command decode_kind decode_write rest_of find_space spaces byte
byte_accepted = refl

complete-no_write : is_write complete ≡ false
unfolding written_by decode kind_of_command decode_kind complete
complete-no_write = refl
