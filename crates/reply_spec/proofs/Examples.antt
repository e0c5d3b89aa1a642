-- Worked examples of the replies: their bytes, and which texts there are.
-- Assumes nothing.
use mathlib.Core.Path.{◌≡◌, refl}
use mathlib.Core.Bool.{true, false}
use mathlib.Core.List.{[], ◌∷◌}
use Rattle.cmd_fields.specs.Commands.{head_bytes}
use Rattle.cmd_fields.specs.declared.Form.TheVariants.{Byte6, Fd, Fe, Ff}
use Rattle.reply_spec.specs.ReplyForms.{no_text, text, text_bytes, no_lowest, lowest, no_address, lowest_address, read, read_failure, write_done, write_failure, options, information, locked, reply_bytes, no_zero, Ended}

-- ---- texts

-- a text ends with its zero byte, an empty one is that byte, and no text has no byte
one-character : text_bytes (text (65 ∷ [])) ≡ 65 ∷ 0 ∷ []
one-character = refl

no_character : text_bytes (text []) ≡ 0 ∷ []
no_character = refl

no_text_lem : text_bytes no_text ≡ []
no_text_lem = refl

-- the only zero byte
ended : Ended (text (65 ∷ 66 ∷ []))
unfolding no_zero
ended = refl

zero-within : no_zero (65 ∷ 0 ∷ 66 ∷ []) ≡ false
unfolding no_zero
zero-within = refl

-- ---- reads and writes: the address, the space byte if there is one, and then bytes, or a code and a message

read-by-bits : reply_bytes (read Fd 0xFD 0x1F (0xAA ∷ [])) ≡ 0x20 ∷ 0x51 ∷ 0x00 ∷ 0x00 ∷ 0x00 ∷ 0x1F ∷ 0xAA ∷ []
unfolding head_bytes
read-by-bits = refl

read-by-byte_6 : reply_bytes (read Byte6 0x10 0x100 (0xAA ∷ 0xBB ∷ [])) ≡ 0x20 ∷ 0x50 ∷ 0x00 ∷ 0x00 ∷ 0x01 ∷ 0x00 ∷ 0x10 ∷ 0xAA ∷ 0xBB ∷ []
unfolding head_bytes
read-by-byte_6 = refl

read-failed : reply_bytes (read_failure Fd 0xFD 0x12345678 0x1082 (text (65 ∷ []))) ≡ 0x20 ∷ 0x59 ∷ 0x12 ∷ 0x34 ∷ 0x56 ∷ 0x78 ∷ 0x10 ∷ 0x82 ∷ 65 ∷ 0 ∷ []
unfolding head_bytes
read-failed = refl

written : reply_bytes (write_done Fe 0xFE 1) ≡ 0x20 ∷ 0x12 ∷ 0x00 ∷ 0x00 ∷ 0x00 ∷ 0x01 ∷ []
unfolding head_bytes
written = refl

write-failed : reply_bytes (write_failure Ff 0xFF 0x20 0x1083 no_text) ≡ 0x20 ∷ 0x1B ∷ 0x00 ∷ 0x00 ∷ 0x00 ∷ 0x20 ∷ 0x10 ∷ 0x83 ∷ []
unfolding head_bytes
write-failed = refl

write-failed_by-byte_6 : reply_bytes (write_failure Byte6 0x10 0x100 0x1082 (text (65 ∷ []))) ≡ 0x20 ∷ 0x18 ∷ 0x00 ∷ 0x00 ∷ 0x01 ∷ 0x00 ∷ 0x10 ∷ 0x10 ∷ 0x82 ∷ 65 ∷ 0 ∷ []
unfolding head_bytes
write-failed_by-byte_6 = refl

-- ---- inquiries

options-named : reply_bytes (options 0xE000 0xF2 0xFF (lowest 0x10 (text (65 ∷ [])))) ≡ 0x20 ∷ 0x82 ∷ 0xE0 ∷ 0x00 ∷ 0xF2 ∷ 0xFF ∷ 0x10 ∷ 65 ∷ 0 ∷ []
options-named = refl

options-alone : reply_bytes (options 0xE000 0xF2 0xFF no_lowest) ≡ 0x20 ∷ 0x82 ∷ 0xE0 ∷ 0x00 ∷ 0xF2 ∷ 0xFF ∷ []
options-alone = refl

present : reply_bytes (information true 0x10 0x10F 2 (lowest_address 0x100) (text (65 ∷ []))) ≡ 0x20 ∷ 0x87 ∷ 0x10 ∷ 0x00 ∷ 0x00 ∷ 0x01 ∷ 0x0F ∷ 0x02 ∷ 0x00 ∷ 0x00 ∷ 0x01 ∷ 0x00 ∷ 65 ∷ 0 ∷ []
present = refl

absent : reply_bytes (information false 0x11 0 0 no_address no_text) ≡ 0x20 ∷ 0x86 ∷ 0x11 ∷ 0x00 ∷ 0x00 ∷ 0x00 ∷ 0x00 ∷ 0x00 ∷ []
absent = refl

held : reply_bytes (locked (1 ∷ 2 ∷ 3 ∷ 4 ∷ 5 ∷ 6 ∷ [])) ≡ 0x20 ∷ 0x8A ∷ 1 ∷ 2 ∷ 3 ∷ 4 ∷ 5 ∷ 6 ∷ []
held = refl
