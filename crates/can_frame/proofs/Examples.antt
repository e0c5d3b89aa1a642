-- Worked examples: the codes of the transport refusals, as document 01 has them.
-- Assumes nothing.
use mathlib.Core.Path.{◌≡◌, refl}
use Rattle.can_frame.specs.Refusal.{refusal_code}
use Rattle.can_frame.specs.declared.TransportRefusal.TheVariants.{TemporaryError, BufferUnavailable, OutOfOrder}

codes : (refusal_code TemporaryError ≡ 0x2000) × (refusal_code BufferUnavailable ≡ 0x2020) × (refusal_code OutOfOrder ≡ 0x2040)
codes = (refl, refl, refl)
