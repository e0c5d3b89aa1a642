-- Worked examples of what is read in the contents of Received OK and Rejected.
-- Assumes nothing.
use mathlib.Core.Path.{◌≡◌, refl}
use mathlib.Core.Bool.{true, false}
use mathlib.Core.List.{[], ◌∷◌}
use lib.ListN.{replicate}
use Rattle.std.proofs.Common.{Some, None}
use Rattle.tool_read_spec.specs.Finding.{span}
use Rattle.tool_read_ack.specs.Receipt.{received, rejection, read_received, read_rejection}

-- ---- Received OK: no flags, all but bit 0x80, all, and a byte too many

no_flags : read_received [] ≡ Some (received false 0)
unfolding read_received
no_flags = refl

not-announced : read_received (0x7F ∷ []) ≡ Some (received false 15)
unfolding read_received
not-announced = refl

announced : read_received (0xFF ∷ []) ≡ Some (received true 15)
unfolding read_received
announced = refl

two_bytes : read_received (0x80 ∷ 0x00 ∷ []) ≡ None
unfolding read_received
two_bytes = refl

-- ---- Rejected: no byte of code, one, which is the high one, two, and 64 and 65 bytes behind them

no_code : read_rejection [] ≡ Some (rejection 0 (span 0 0))
unfolding read_rejection
no_code = refl

one_byte : read_rejection (0x20 ∷ []) ≡ Some (rejection 0x2000 (span 1 0))
unfolding read_rejection
one_byte = refl

code-alone : read_rejection (0x10 ∷ 0x80 ∷ []) ≡ Some (rejection 0x1080 (span 2 0))
unfolding read_rejection
code-alone = refl

byte_66 : read_rejection (0x10 ∷ 0x80 ∷ replicate 64 0) ≡ Some (rejection 0x1080 (span 2 64))
unfolding read_rejection
byte_66 = refl

byte_67 : read_rejection (0x10 ∷ 0x80 ∷ replicate 65 0) ≡ None
unfolding read_rejection
byte_67 = refl
