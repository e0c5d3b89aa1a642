-- The bytes of a reply stand for it alone, and kind 0 for W3 alone.
-- Assumes nothing.
use mathlib.Core.Path.{◌≡◌, refl, ap, ◌∙◌}
use Prim.Native.Nat.{ℕ}
use mathlib.Core.Bool.{Bool, cond}
use lib.Dec.{eqb}
use Rattle.cmd_fields.specs.declared.Form.{Form}
use Rattle.cmd_fields.specs.declared.Form.TheVariants.{NoSpace, Byte6, Fd, Fe, Ff}
use Rattle.std.proofs.Common.{Option, Some, None}
use Rattle.tool_read_spec.specs.declared.Span.{Span}
use Rattle.tool_read_spec.specs.declared.LowestSpace.{LowestSpace}
use Rattle.tool_read_spec.specs.declared.Options.{Options}
use Rattle.tool_read_spec.specs.declared.Information.{Information}
use Rattle.tool_read_spec.specs.declared.ReplyIn.{ReplyIn}
use Rattle.tool_read_spec.specs.declared.ReplyIn.TheVariants as found
use Rattle.tool_result_spec.specs.declared.ReplyFields.{ReplyFields}
use Rattle.tool_result_spec.specs.Layout.{reply_fields_bytes}
use Rattle.tool_result_spec.proofs.LayoutLaws.{reply-back}
use Rattle.tool_result_spec.specs.Numbers.{w3, not_refused, form_number, text_range, fields_of_reply, reply_refusal, reply_refusal_in, form_is, text_is, reply_is, ToldApart}

form_back : (form : Form) → form_is (form_number form) ≡ form
form_back NoSpace = refl
form_back Byte6 = refl
form_back Fd = refl
form_back Fe = refl
form_back Ff = refl

text-back : (text : Option Span) → text_is (text_range text) ≡ text
text-back None = refl
text-back (Some s) = refl

module _ (commands lengths highest : ℕ) where
  abbrev some_options : Option LowestSpace → Options
  some_options low = record { commands = commands; write_lengths = lengths; highest_space = highest; lowest = low }

  options_apart : (low : Option LowestSpace) → reply_is (fields_of_reply (Some (found.Options (some_options low)))) ≡ Some (found.Options (some_options low))
  unfolding fields_of_reply reply_is
  options_apart None = refl
  options_apart (Some l) = rw (text-back l.name)

module _ (present : Bool) (space highest flags : ℕ) (description : Option Span) where
  abbrev some_information : Option ℕ → Information
  some_information low =
      record { present = present; space = space; highest_address = highest; flags = flags; lowest_address = low; description = description }

  information_apart : (low : Option ℕ) → reply_is (fields_of_reply (Some (found.Information (some_information low)))) ≡ Some (found.Information (some_information low))
  unfolding fields_of_reply reply_is
  information_apart None = rw (text-back description)
  information_apart (Some a) = rw (text-back description)

numbers_apart : (r : Option ReplyIn) → reply_is (fields_of_reply r) ≡ r
unfolding fields_of_reply reply_is
numbers_apart None = refl
numbers_apart (Some (found.Read t s)) = rw (form_back t.form)
numbers_apart (Some (found.ReadFailure f)) = rw (form_back f.target.form, text-back f.message)
numbers_apart (Some (found.WriteDone t)) = rw (form_back t.form)
numbers_apart (Some (found.WriteFailure f)) = rw (form_back f.target.form, text-back f.message)
numbers_apart (Some (found.Options o)) = options_apart o.commands o.write_lengths o.highest_space o.lowest
numbers_apart (Some (found.Information i)) = information_apart i.present i.space i.highest_address i.flags i.description i.lowest_address
numbers_apart (Some (found.Locked s)) = refl

pub told_apart : ToldApart
told_apart r = ap reply_is (reply-back (fields_of_reply r)) ∙ numbers_apart r

refusal-kind : (r : Option ReplyIn) → cond (eqb (fields_of_reply r).kind 0) w3 not_refused ≡ reply_refusal r
unfolding fields_of_reply
refusal-kind None = refl
refusal-kind (Some (found.Read t s)) = refl
refusal-kind (Some (found.ReadFailure f)) = refl
refusal-kind (Some (found.WriteDone t)) = refl
refusal-kind (Some (found.WriteFailure f)) = refl
refusal-kind (Some (found.Options o)) = refl
refusal-kind (Some (found.Information i)) = refl
refusal-kind (Some (found.Locked s)) = refl

pub reply-refusal : (r : Option ReplyIn) → reply_refusal_in (reply_fields_bytes (fields_of_reply r)) ≡ reply_refusal r
reply-refusal r = ap (λ (f : ReplyFields). cond (eqb f.kind 0) w3 not_refused) (reply-back (fields_of_reply r)) ∙ refusal-kind r
