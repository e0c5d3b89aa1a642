-- Worked examples of the first bytes of a datagram that has an address.
-- Assumes nothing.
use mathlib.Core.Path.{◌≡◌, refl}
use mathlib.Core.List.{[], ◌∷◌}
use Rattle.cmd_fields.specs.Commands.{Names, head_bytes}
use Rattle.cmd_fields.specs.declared.Form.TheVariants.{Byte6, Fd, Ff}

fd_by-bits : Names Fd 0xFD
fd_by-bits = refl

-- by the low two bits, and by byte 6
by_bits : head_bytes 0x40 Fd 0xFD 0x12345678 ≡ 0x20 ∷ 0x41 ∷ 0x12 ∷ 0x34 ∷ 0x56 ∷ 0x78 ∷ []
unfolding head_bytes
by_bits = refl

by-byte_6 : head_bytes 0x40 Byte6 0xFD 0x12345678 ≡ 0x20 ∷ 0x40 ∷ 0x12 ∷ 0x34 ∷ 0x56 ∷ 0x78 ∷ 0xFD ∷ []
unfolding head_bytes
by-byte_6 = refl

-- the low two bits are those of the form, whatever they were
bits_replaced : head_bytes 0x5A Ff 0xFF 1 ≡ 0x20 ∷ 0x5B ∷ 0 ∷ 0 ∷ 0 ∷ 1 ∷ []
unfolding head_bytes
bits_replaced = refl
