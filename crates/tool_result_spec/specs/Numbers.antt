-- What the tool's writer and readers give, as numbers for a caller in C: the number of each case, and its values.
use Rattle.std.specs.Prelude.{ℕ, ◌≡◌, Bool, true, false, cond, List, eqb, Option, Some, None, Result, Ok, Err}
use Rattle.cmd_fields.specs.declared.Form.{Form}
use Rattle.cmd_fields.specs.declared.Form.TheVariants.{NoSpace, Byte6, Fd, Fe, Ff}
use Rattle.tool_write_spec.specs.declared.WriteError.{WriteError}
use Rattle.tool_write_spec.specs.declared.WriteError.TheVariants.{OutOfRange, NoRoom}
use Rattle.tool_read_ack.specs.declared.Received.{Received}
use Rattle.tool_read_ack.specs.declared.Rejection.{Rejection}
use Rattle.tool_read_spec.specs.Finding.{span, lowest_named}
use Rattle.tool_read_spec.specs.declared.Span.{Span}
use Rattle.tool_read_spec.specs.declared.Target.{Target}
use Rattle.tool_read_spec.specs.declared.Failure.{Failure}
use Rattle.tool_read_spec.specs.declared.LowestSpace.{LowestSpace}
use Rattle.tool_read_spec.specs.declared.Options.{Options}
use Rattle.tool_read_spec.specs.declared.Information.{Information}
use Rattle.tool_read_spec.specs.declared.ReplyIn.{ReplyIn}
use Rattle.tool_read_spec.specs.declared.ReplyIn.TheVariants as found
use Rattle.tool_result_spec.specs.Layout.{reply_fields_bytes, reply_in}
use Rattle.tool_result_spec.specs.declared.Composed.{Composed}
use Rattle.tool_result_spec.specs.declared.Acknowledged.{Acknowledged}
use Rattle.tool_result_spec.specs.declared.ByteRange.{ByteRange}
use Rattle.tool_result_spec.specs.declared.RejectionFields.{RejectionFields}
use Rattle.tool_result_spec.specs.declared.OptionsFields.{OptionsFields}
use Rattle.tool_result_spec.specs.declared.InformationFields.{InformationFields}
use Rattle.tool_result_spec.specs.declared.ReplyFields.{ReplyFields}

-- ---- the refusals of C-12

-- Document 01: "Every number is given in the cases stated here and in no other."
pub data ToolRefusal : Type 0 where
  w1 : ToolRefusal
  w2 : ToolRefusal
  w3 : ToolRefusal
  not_refused : ToolRefusal

-- The paper's number of each, and 0 where nothing is refused.
abbrev pub tool_refusal_number : ToolRefusal → ℕ
tool_refusal_number w1 = 1
tool_refusal_number w2 = 2
tool_refusal_number w3 = 3
tool_refusal_number not_refused = 0

-- ---- a command

-- "The writer refuses with W1 a count or length out of range, then with W2 a lent buffer under 72 bytes"; else the
-- command's length.
abbrev pub composed_of : Result ℕ WriteError → Composed
composed_of (Err OutOfRange) = record { refusal = tool_refusal_number w1; length = 0 }
composed_of (Err NoRoom) = record { refusal = tool_refusal_number w2; length = 0 }
composed_of (Ok n) = record { refusal = tool_refusal_number not_refused; length = n }

-- ---- Received OK and Rejected

-- "the reader gives W3 for a Received OK over 1 byte .. and for all else every field"
abbrev pub acknowledged_of : Option Received → Acknowledged
acknowledged_of None = record { refusal = tool_refusal_number w3; pending = false; timeout = 0 }
acknowledged_of (Some r) =
    record { refusal = tool_refusal_number not_refused; pending = r.pending; timeout = r.timeout }

abbrev pub no_range : ByteRange
no_range = record { given = false; start = 0; length = 0 }

abbrev pub range_at : Span → ByteRange
range_at s = record { given = true; start = s.start; length = s.length }

-- W3 for "a Rejected over 66", and for all else every field.
abbrev pub rejection_of : Option Rejection → RejectionFields
rejection_of None = record { refusal = tool_refusal_number w3; code = 0; further = no_range }
rejection_of (Some r) = record { refusal = tool_refusal_number not_refused; code = r.code; further = range_at r.further }

-- ---- replies

-- A reply with an address always names its space: 4 is never given.
abbrev pub form_number : Form → ℕ
form_number NoSpace = 4
form_number Byte6 = 0
form_number Fd = 1
form_number Fe = 2
form_number Ff = 3

-- An empty text is given, and has no bytes.
abbrev pub text_range : Option Span → ByteRange
text_range None = no_range
text_range (Some s) = range_at s

abbrev pub no_options : OptionsFields
no_options = record { commands = 0; write_lengths = 0; highest_space = 0; has_lowest_space = false; lowest_space = 0 }

abbrev pub no_information : InformationFields
no_information = record { highest_address = 0; lowest_address = 0; flags = 0; present = false; has_lowest_address = false }

abbrev pub access_fields : ℕ → Target → ℕ → ByteRange → ReplyFields
access_fields kind t code bytes =
    record { kind = kind; address = t.address; code = code; space = t.space; form = form_number t.form; options = no_options; information = no_information; bytes = bytes }

abbrev pub about_fields : ℕ → ℕ → OptionsFields → InformationFields → ByteRange → ReplyFields
about_fields kind space options information bytes =
    record { kind = kind; address = 0; code = 0; space = space; form = 0; options = options; information = information; bytes = bytes }

abbrev pub options_of : ℕ → ℕ → ℕ → Option LowestSpace → OptionsFields
options_of commands lengths highest None =
    record { commands = commands; write_lengths = lengths; highest_space = highest; has_lowest_space = false; lowest_space = 0 }
options_of commands lengths highest (Some l) =
    record { commands = commands; write_lengths = lengths; highest_space = highest; has_lowest_space = true; lowest_space = l.space }

abbrev pub name_bytes : Option LowestSpace → ByteRange
name_bytes None = no_range
name_bytes (Some l) = text_range l.name

abbrev pub information_of : Bool → ℕ → ℕ → Option ℕ → InformationFields
information_of present highest flags None =
    record { highest_address = highest; lowest_address = 0; flags = flags; present = present; has_lowest_address = false }
information_of present highest flags (Some low) =
    record { highest_address = highest; lowest_address = low; flags = flags; present = present; has_lowest_address = true }

unfoldable pub fields_of_reply : Option ReplyIn → ReplyFields
fields_of_reply None = about_fields 0 0 no_options no_information no_range
fields_of_reply (Some (found.Read t s)) = access_fields 1 t 0 (range_at s)
fields_of_reply (Some (found.ReadFailure f)) = access_fields 2 f.target f.code (text_range f.message)
fields_of_reply (Some (found.WriteDone t)) = access_fields 3 t 0 no_range
fields_of_reply (Some (found.WriteFailure f)) = access_fields 4 f.target f.code (text_range f.message)
fields_of_reply (Some (found.Options o)) = about_fields 5 0 (options_of o.commands o.write_lengths o.highest_space o.lowest) no_information (name_bytes o.lowest)
fields_of_reply (Some (found.Information i)) =
    about_fields 6 i.space no_options (information_of i.present i.highest_address i.flags i.lowest_address) (text_range i.description)
fields_of_reply (Some (found.Locked s)) = about_fields 7 0 no_options no_information (range_at s)

-- W3 for "bytes in no reply form of source document 000 for these commands", and for no others.
abbrev pub reply_refusal : Option ReplyIn → ToolRefusal
reply_refusal None = w3
reply_refusal (Some r) = not_refused

-- A reply has no field for a refusal: W3 is kind 0 in its bytes.
abbrev pub reply_refusal_in : List ℕ → ToolRefusal
reply_refusal_in bytes = cond (eqb (reply_in bytes).kind 0) w3 not_refused

-- ---- no blank stands for something

-- The reply that the numbers stand for.
abbrev pub form_is : ℕ → Form
form_is n = cond (eqb n 0) Byte6 (cond (eqb n 1) Fd (cond (eqb n 2) Fe (cond (eqb n 3) Ff NoSpace)))

abbrev pub target_is : ReplyFields → Target
target_is f = record { form = form_is f.form; space = f.space; address = f.address }

abbrev pub span_is : ByteRange → Span
span_is b = span b.start b.length

abbrev pub text_is : ByteRange → Option Span
text_is b = cond b.given (Some (span_is b)) None

abbrev pub failure_is : ReplyFields → Failure
failure_is f = record { target = target_is f; code = f.code; message = text_is f.bytes }

abbrev pub lowest_given : OptionsFields → ByteRange → Option LowestSpace
lowest_given o b = cond o.has_lowest_space (Some (lowest_named o.lowest_space (text_is b))) None

abbrev pub address_given : InformationFields → Option ℕ
address_given i = cond i.has_lowest_address (Some i.lowest_address) None

abbrev pub options_is : ReplyFields → Options
options_is f =
    record {
      commands = f.options.commands;
      write_lengths = f.options.write_lengths;
      highest_space = f.options.highest_space;
      lowest = lowest_given f.options f.bytes;
    }

abbrev pub information_is : ReplyFields → Information
information_is f =
    record {
      present = f.information.present;
      space = f.space;
      highest_address = f.information.highest_address;
      flags = f.information.flags;
      lowest_address = address_given f.information;
      description = text_is f.bytes;
    }

unfoldable pub reply_is : ReplyFields → Option ReplyIn
reply_is f =
    cond (eqb f.kind 1) (Some (found.Read (target_is f) (span_is f.bytes)))
    (cond (eqb f.kind 2) (Some (found.ReadFailure (failure_is f)))
    (cond (eqb f.kind 3) (Some (found.WriteDone (target_is f)))
    (cond (eqb f.kind 4) (Some (found.WriteFailure (failure_is f)))
    (cond (eqb f.kind 5)
    (Some (found.Options (options_is f)))
    (cond (eqb f.kind 6)
    (Some (found.Information (information_is f)))
    (cond (eqb f.kind 7) (Some (found.Locked (span_is f.bytes))) None))))))

-- Replies that differ have bytes that differ: no text is not an empty one, and what is missing is not 0.
abbrev pub ToldApart : Type 0
ToldApart = (r : Option ReplyIn) → reply_is (reply_in (reply_fields_bytes (fields_of_reply r))) ≡ r
