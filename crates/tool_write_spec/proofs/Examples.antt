-- Worked examples of the writer's one form, and of which refusal is given.
-- Assumes nothing.
use mathlib.Core.Path.{◌≡◌, refl}
use mathlib.Core.Bool.{true, false}
use mathlib.Core.List.{[], ◌∷◌}
use Rattle.cmd_fields.specs.Commands.{pair, read, write, write_masked, reserve, kind_of_command, head_bytes, rest_of}
use Rattle.cmd_fields.specs.declared.Form.TheVariants.{Byte6, Fd}
use Rattle.cmd_decode.specs.Decoding.{request, decode_read, decode_kind, decode}
use Rattle.tool_write_spec.specs.Writing.{pair_bytes, command_for, in_range, w1, w2, command, writing, in_one_form}

-- a read of 64 bytes by the control bits, and by byte 6: the top bit of the count is zero
read-by-bits : command_for (read 0xFD 0x12345678 64) ≡ 0x20 ∷ 0x41 ∷ 0x12 ∷ 0x34 ∷ 0x56 ∷ 0x78 ∷ 0x40 ∷ []
unfolding command_for head_bytes
read-by-bits = refl

read-by-byte_6 : command_for (read 0xFC 0x12345678 64) ≡ 0x20 ∷ 0x40 ∷ 0x12 ∷ 0x34 ∷ 0x56 ∷ 0x78 ∷ 0xFC ∷ 0x40 ∷ []
unfolding command_for head_bytes
read-by-byte_6 = refl

-- a write of two bytes
two_bytes : command_for (write 0xFF 1 (0xAA ∷ 0xBB ∷ [])) ≡ 0x20 ∷ 0x03 ∷ 0 ∷ 0 ∷ 0 ∷ 1 ∷ 0xAA ∷ 0xBB ∷ []
unfolding command_for head_bytes
two_bytes = refl

-- a masked write of one pair: the mask stands before its data
one-pair : command_for (write_masked 0xFE 1 (pair 0xF0 0x50 ∷ [])) ≡ 0x20 ∷ 0x0A ∷ 0 ∷ 0 ∷ 0 ∷ 1 ∷ 0xF0 ∷ 0x50 ∷ []
unfolding command_for head_bytes pair_bytes
one-pair = refl

-- W1 comes before W2
w1-first : writing true (read 0xFD 0 65) 71 ≡ w1
unfolding writing in_range
w1-first = refl

w2-then : writing true (read 0xFD 0 64) 71 ≡ w2
unfolding writing in_range
w2-then = refl

five_bytes : writing true (reserve (1 ∷ 2 ∷ 3 ∷ 4 ∷ 5 ∷ [])) 72 ≡ w1
unfolding writing in_range
five_bytes = refl

odd_byte : writing false (write_masked 0xFE 1 (pair 0xF0 0x50 ∷ [])) 72 ≡ w1
unfolding writing
odd_byte = refl

neither : writing true (reserve (1 ∷ 2 ∷ 3 ∷ 4 ∷ 5 ∷ 6 ∷ [])) 72 ≡ command (0x20 ∷ 0x88 ∷ 1 ∷ 2 ∷ 3 ∷ 4 ∷ 5 ∷ 6 ∷ [])
unfolding writing in_range command_for
neither = refl

-- a read of one byte with the top bit of its count set: the board reads it, and it is not in the one form
top_bit_read : decode (0x20 ∷ 0x41 ∷ 0 ∷ 0 ∷ 0 ∷ 0 ∷ 0x81 ∷ []) ≡ request Fd (read 0xFD 0 1)
unfolding decode decode_kind decode_read kind_of_command rest_of
top_bit_read = refl

top_bit_not-in_form : in_one_form (0x20 ∷ 0x41 ∷ 0 ∷ 0 ∷ 0 ∷ 0 ∷ 0x81 ∷ []) ≡ false
unfolding in_one_form kind_of_command rest_of
top_bit_not-in_form = refl

-- so is a read of 0xFF by byte 6
byte_6_read : decode (0x20 ∷ 0x40 ∷ 0 ∷ 0 ∷ 0 ∷ 0 ∷ 0xFF ∷ 0x01 ∷ []) ≡ request Byte6 (read 0xFF 0 1)
unfolding decode decode_kind decode_read kind_of_command rest_of
byte_6_read = refl

byte_6_not-in_form : in_one_form (0x20 ∷ 0x40 ∷ 0 ∷ 0 ∷ 0 ∷ 0 ∷ 0xFF ∷ 0x01 ∷ []) ≡ false
unfolding in_one_form kind_of_command rest_of
byte_6_not-in_form = refl
