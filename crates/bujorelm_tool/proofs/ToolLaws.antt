-- The bytes of a reply that was read.
-- Assumes nothing.
use Prim.Native.Nat.{ℕ}
use mathlib.Core.Path.{◌≡◌, ap, ◌∙◌}
use mathlib.Core.List.{List}
use Rattle.std.proofs.Common.{Option}
use Rattle.tool_read_spec.specs.Finding.{find_reply}
use Rattle.tool_read_spec.specs.declared.ReplyIn.{ReplyIn}
use Rattle.tool_result_spec.specs.Numbers.{fields_of_reply, reply_refusal, reply_refusal_in}
use Rattle.tool_result_spec.specs.Layout.{reply_fields_bytes}
use Rattle.tool_result_spec.proofs.ApartLaws.{reply-refusal}

-- what was found in a datagram, in bytes: W3 is kind 0
pub replies : (d : List ℕ) {found : Option ReplyIn} {reply : List ℕ} → reply ≡ reply_fields_bytes (fields_of_reply found) → found ≡ find_reply d →
    (reply ≡ reply_fields_bytes (fields_of_reply (find_reply d))) × (reply_refusal_in reply ≡ reply_refusal (find_reply d))
replies d p q =
    let e = p ∙ ap (λ (f : Option ReplyIn). reply_fields_bytes (fields_of_reply f)) q in
    (e, ap reply_refusal_in e ∙ reply-refusal (find_reply d))
