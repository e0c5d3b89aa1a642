-- Each datagram has the reading that the language gives it, or none.
-- Assumes nothing.
use mathlib.Core.Path.{◌≡◌, sym, ◌∙◌}
use Rattle.std.proofs.Common.{Some}
use Rattle.reply_spec.specs.ReplyForms.{Reply}
use Rattle.tool_read_spec.specs.Finding.{Readings}
use Rattle.tool_read_spec.proofs.CompleteLaws.{complete}
use Rattle.tool_read_spec.proofs.SoundLaws.{sound}

same-reading : (x y : Reply) → Some x ≡ Some y → x ≡ y
same-reading x y e = cc

pub readings : Readings
readings d bytes =
    record { sound = sound d bytes; complete = complete d; one = λ x y p q. same-reading x y (sym (complete d x p) ∙ complete d y q) }
