-- Worked examples of what the board replies: document 01's own bytes.
-- Assumes nothing.
use mathlib.Core.Path.{◌≡◌, refl}
use mathlib.Core.Bool.{true, false}
use mathlib.Core.List.{[], ◌∷◌}
use Rattle.cmd_fields.specs.Commands.{head_bytes}
use Rattle.cmd_fields.specs.declared.Form.TheVariants.{Byte6, Fd, Ff}
use Rattle.space_table.specs.declared.Space.{Space}
use Rattle.space_lookup.specs.Description.{lowest_number}
use Rattle.space_lookup.specs.declared.Found.TheVariants.{Described, Empty, Unknown}
use Rattle.reply_spec.specs.ReplyForms.{reply_bytes}
use Rattle.reply_datagram.specs.Replies.{read_reply, failed_read, failed_write, lock_reply}
use Rattle.reply_datagram.specs.Inquiry.{options_reply, information_reply}

-- two spaces of the demonstration board
abbrev high : Space
high = record { number = 0x10; read_only = false; in_flash = false; lowest = 0x100; highest = 0x10F; offset = 32 }

abbrev described : Space
described = record { number = 0xFF; read_only = true; in_flash = true; lowest = 0; highest = 0xF; offset = 0 }

-- "20 82 E0 00, Write Lengths, FF, then the lowest number"
lowest-described : reply_bytes (options_reply 0xF2 (described ∷ high ∷ [])) ≡ 0x20 ∷ 0x82 ∷ 0xE0 ∷ 0x00 ∷ 0xF2 ∷ 0xFF ∷ 0x10 ∷ []
unfolding lowest_number
lowest-described = refl

lowest-fd : reply_bytes (options_reply 0xF2 []) ≡ 0x20 ∷ 0x82 ∷ 0xE0 ∷ 0x00 ∷ 0xF2 ∷ 0xFF ∷ 0xFD ∷ []
unfolding lowest_number
lowest-fd = refl

-- "20 87, space, highest, flags, and lowest only if not zero"
lowest-given : reply_bytes (information_reply 0x10 (Described high)) ≡ 0x20 ∷ 0x87 ∷ 0x10 ∷ 0x00 ∷ 0x00 ∷ 0x01 ∷ 0x0F ∷ 0x02 ∷ 0x00 ∷ 0x00 ∷ 0x01 ∷ 0x00 ∷ []
unfolding information_reply
lowest-given = refl

lowest-zero : reply_bytes (information_reply 0xFF (Described described)) ≡ 0x20 ∷ 0x87 ∷ 0xFF ∷ 0x00 ∷ 0x00 ∷ 0x00 ∷ 0x0F ∷ 0x01 ∷ []
unfolding information_reply
lowest-zero = refl

-- "A space not described: 20 86, space, five zero bytes."
unknown : reply_bytes (information_reply 0x11 Unknown) ≡ 0x20 ∷ 0x86 ∷ 0x11 ∷ 0x00 ∷ 0x00 ∷ 0x00 ∷ 0x00 ∷ 0x00 ∷ []
unfolding information_reply
unknown = refl

left_out : reply_bytes (information_reply 0xFF (Empty true)) ≡ 0x20 ∷ 0x86 ∷ 0xFF ∷ 0x00 ∷ 0x00 ∷ 0x00 ∷ 0x00 ∷ 0x00 ∷ []
unfolding information_reply
left_out = refl

-- "Reply 20 8A and the lock memory afterwards."
held : reply_bytes (lock_reply (1 ∷ 2 ∷ 3 ∷ 4 ∷ 5 ∷ 6 ∷ [])) ≡ 0x20 ∷ 0x8A ∷ 1 ∷ 2 ∷ 3 ∷ 4 ∷ 5 ∷ 6 ∷ []
held = refl

-- of the proved cases: `20410000001F40`, `20410000002001` and `20030000002001`; and a read of the first space, by byte 6
one_byte : reply_bytes (read_reply Fd 0xFD 0x1F (0x00 ∷ [])) ≡ 0x20 ∷ 0x51 ∷ 0x00 ∷ 0x00 ∷ 0x00 ∷ 0x1F ∷ 0x00 ∷ []
unfolding head_bytes
one_byte = refl

read-outside : reply_bytes (failed_read Fd 0xFD 0x20 0x1082) ≡ 0x20 ∷ 0x59 ∷ 0x00 ∷ 0x00 ∷ 0x00 ∷ 0x20 ∷ 0x10 ∷ 0x82 ∷ []
unfolding head_bytes
read-outside = refl

read-only : reply_bytes (failed_write Ff 0xFF 0x20 0x1083) ≡ 0x20 ∷ 0x1B ∷ 0x00 ∷ 0x00 ∷ 0x00 ∷ 0x20 ∷ 0x10 ∷ 0x83 ∷ []
unfolding head_bytes
read-only = refl

by-byte_6 : reply_bytes (read_reply Byte6 0x10 0x100 (0xAA ∷ [])) ≡ 0x20 ∷ 0x50 ∷ 0x00 ∷ 0x00 ∷ 0x01 ∷ 0x00 ∷ 0x10 ∷ 0xAA ∷ []
unfolding head_bytes
by-byte_6 = refl
