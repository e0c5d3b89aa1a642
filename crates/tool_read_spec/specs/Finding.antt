-- How a reader finds the fields of a reply in a datagram, which are numbers or say where bytes stand; and that it finds
-- what the language of replies says, and nothing else.
use Rattle.std.specs.Prelude.{ℕ, suc, ◌+◌, ◌-◌, ◌*◌, ◌≡◌, Bool, true, false, cond, ◌&&◌, ◌||◌, List, [], ◌∷◌, leb, ltb, eqb, length, get_or, take, drop, Option, Some, None}
use Rattle.buffer.specs.Buffer.{AllBytes}
use Rattle.buffer.specs.BigEndian.{number_of}
use Rattle.cmd_fields.specs.Commands.{within, form_in, head_length, space_of, address_of}
use Rattle.reply_spec.specs.ReplyForms.{Text, no_text, text, Lowest, no_lowest, lowest, LowestAddress, no_address, lowest_address, Reply, read, read_failure, write_done, write_failure, options, information, locked, bit1, IsReply}
use Rattle.tool_read_spec.specs.declared.Span.{Span}
use Rattle.tool_read_spec.specs.declared.Target.{Target}
use Rattle.tool_read_spec.specs.declared.Failure.{Failure}
use Rattle.tool_read_spec.specs.declared.LowestSpace.{LowestSpace}
use Rattle.tool_read_spec.specs.declared.Options.{Options}
use Rattle.tool_read_spec.specs.declared.Information.{Information}
use Rattle.tool_read_spec.specs.declared.ReplyKind.{ReplyKind}
use Rattle.tool_read_spec.specs.declared.ReplyKind.TheVariants as kind
use Rattle.tool_read_spec.specs.declared.ReplyIn.{ReplyIn}
use Rattle.tool_read_spec.specs.declared.ReplyIn.TheVariants as found

-- ---- texts

-- Where the first zero byte stands; behind all bytes where there is none.
unfoldable pub first_zero : List ℕ → ℕ
first_zero [] = 0
first_zero (c ∷ more) = cond (eqb c 0) 0 (suc (first_zero more))

-- No bytes at all, or bytes of which the last is the first zero.
unfoldable pub is_text : List ℕ → Bool
is_text bytes = eqb (length bytes) 0 || eqb (first_zero bytes + 1) (length bytes)

-- n bytes from an index on.
abbrev pub span : ℕ → ℕ → Span
span start n = record { start = start; length = n }

-- The text from an index to the end of a datagram, without its zero byte.
abbrev pub text_from : ℕ → ℕ → Option Span
text_from start end = cond (leb end start) None (Some (span start (end - start - 1)))

-- ---- datagrams

unfoldable pub kind_of_reply : ℕ → ReplyKind
kind_of_reply c =
    cond (within 0x50 0x53 c) kind.Read
    (cond (within 0x58 0x5B c) kind.ReadFailure
    (cond (within 0x10 0x13 c) kind.WriteDone
    (cond (within 0x18 0x1B c) kind.WriteFailure
    (cond (eqb c 0x82) kind.Options
    (cond (eqb c 0x86) kind.Absent
    (cond (eqb c 0x87) kind.Present
    (cond (eqb c 0x8A) kind.Locked kind.Other)))))))

-- How many bytes stand before the data or the code.
abbrev pub head_in : List ℕ → ℕ
head_in d = head_length (form_in d)

abbrev pub or_none : Bool → ReplyIn → Option ReplyIn
or_none right r = cond right (Some r) None

-- The form, the space and the address, where the command has them.
abbrev pub target_in : List ℕ → Target
target_in d = record { form = form_in d; space = space_of (form_in d) d; address = address_of d }

unfoldable pub find_read : List ℕ → Option ReplyIn
find_read d =
    or_none (ltb (head_in d) (length d) && leb (length d - head_in d) 64)
    (found.Read (target_in d) (span (head_in d) (length d - head_in d)))

unfoldable pub find_written : List ℕ → Option ReplyIn
find_written d = or_none (eqb (length d) (head_in d)) (found.WriteDone (target_in d))

-- A number of two bytes from an index on, most significant first.
abbrev pub two_bytes_at : ℕ → List ℕ → ℕ
two_bytes_at i d = get_or d i 0 * 256 + get_or d (i + 1) 0

-- The code of a failure, two bytes, and a message behind it.
abbrev pub code_in : List ℕ → ℕ
code_in d = two_bytes_at (head_in d) d

unfoldable pub failure_fits : List ℕ → Bool
failure_fits d = leb (head_in d + 2) (length d) && (leb (length d - (head_in d + 2)) 63 && is_text (drop (head_in d + 2) d))

abbrev pub message_in : List ℕ → Option Span
message_in d = text_from (head_in d + 2) (length d)

-- What failed, the code, and the message behind it.
abbrev pub failure_in : List ℕ → Failure
failure_in d = record { target = target_in d; code = code_in d; message = message_in d }

abbrev pub find_read_failure : List ℕ → Option ReplyIn
find_read_failure d = or_none (failure_fits d) (found.ReadFailure (failure_in d))

abbrev pub find_write_failure : List ℕ → Option ReplyIn
find_write_failure d = or_none (failure_fits d) (found.WriteFailure (failure_in d))

abbrev pub lowest_named : ℕ → Option Span → LowestSpace
lowest_named space name = record { space = space; name = name }

abbrev pub read_lowest : List ℕ → Option LowestSpace
read_lowest d = cond (eqb (length d) 6) None (Some (lowest_named (get_or d 6 0) (text_from 7 (length d))))

-- Bytes 2 and 3, 4, 5, and what is from byte 6 on.
abbrev pub options_in : List ℕ → Options
options_in d = record { commands = two_bytes_at 2 d; write_lengths = get_or d 4 0; highest_space = get_or d 5 0; lowest = read_lowest d }

unfoldable pub find_options : List ℕ → Option ReplyIn
find_options d =
    or_none (leb 6 (length d) && is_text (drop 7 d))
    (found.Options (options_in d))

-- Whether a space's lowest address is given, and where its description begins.
abbrev pub is_given : List ℕ → Bool
is_given d = eqb (bit1 (get_or d 7 0)) 1

abbrev pub description_start : List ℕ → ℕ
description_start d = cond (is_given d) 12 8

abbrev pub read_address : List ℕ → Option ℕ
read_address d = cond (is_given d) (Some (number_of (get_or d 8 0) (get_or d 9 0) (get_or d 10 0) (get_or d 11 0))) None

-- Byte 2, bytes 3 to 6, byte 7, and what is from byte 8 on.
abbrev pub information_in : Bool → List ℕ → Information
information_in present d =
    record {
      present = present;
      space = get_or d 2 0;
      highest_address = number_of (get_or d 3 0) (get_or d 4 0) (get_or d 5 0) (get_or d 6 0);
      flags = get_or d 7 0;
      lowest_address = read_address d;
      description = text_from (description_start d) (length d);
    }

unfoldable pub find_information : Bool → List ℕ → Option ReplyIn
find_information present d =
    or_none (leb (description_start d) (length d) && is_text (drop (description_start d) d))
    (found.Information (information_in present d))

unfoldable pub find_locked : List ℕ → Option ReplyIn
find_locked d = or_none (eqb (length d) 8) (found.Locked (span 2 6))

unfoldable pub find_kind : ReplyKind → List ℕ → Option ReplyIn
find_kind kind.Read d = find_read d
find_kind kind.ReadFailure d = find_read_failure d
find_kind kind.WriteDone d = find_written d
find_kind kind.WriteFailure d = find_write_failure d
find_kind kind.Options d = find_options d
find_kind kind.Absent d = find_information false d
find_kind kind.Present d = find_information true d
find_kind kind.Locked d = find_locked d
find_kind kind.Other d = None

-- W3 for "bytes in no reply form of source document 000 for these commands", and for over 72 bytes.
unfoldable pub find_reply : List ℕ → Option ReplyIn
find_reply d =
    cond (leb 2 (length d) && (leb (length d) 72 && eqb (get_or d 0 0) 0x20))
    (find_kind (kind_of_reply (get_or d 1 0)) d) None

-- ---- what was found, as the reply that it stands for; W3 stands for none

abbrev pub bytes_from : ℕ → ℕ → List ℕ → List ℕ
bytes_from start n d = take n (drop start d)

abbrev pub bytes_in : Span → List ℕ → List ℕ
bytes_in s d = bytes_from s.start s.length d

abbrev pub text_of : Option Span → List ℕ → Text
text_of None d = no_text
text_of (Some s) d = text (bytes_in s d)

abbrev pub lowest_of : Option LowestSpace → List ℕ → Lowest
lowest_of None d = no_lowest
lowest_of (Some l) d = lowest l.space (text_of l.name d)

abbrev pub lowest_address_of : Option ℕ → LowestAddress
lowest_address_of None = no_address
lowest_address_of (Some a) = lowest_address a

unfoldable pub reply_found : Option ReplyIn → List ℕ → Option Reply
reply_found None d = None
reply_found (Some (found.Read t s)) d = Some (read t.form t.space t.address (bytes_in s d))
reply_found (Some (found.ReadFailure f)) d = Some (read_failure f.target.form f.target.space f.target.address f.code (text_of f.message d))
reply_found (Some (found.WriteDone t)) d = Some (write_done t.form t.space t.address)
reply_found (Some (found.WriteFailure f)) d = Some (write_failure f.target.form f.target.space f.target.address f.code (text_of f.message d))
reply_found (Some (found.Options o)) d = Some (options o.commands o.write_lengths o.highest_space (lowest_of o.lowest d))
reply_found (Some (found.Information i)) d =
    Some (information i.present i.space i.highest_address i.flags (lowest_address_of i.lowest_address) (text_of i.description d))
reply_found (Some (found.Locked s)) d = Some (locked (bytes_in s d))

-- Of every list of bytes: a reply is found if and only if the datagram is that reply, so that it has one reading or
-- none.
pub record OneReading (d : List ℕ) : Type 0 where
  pub sound : (x : Reply) → reply_found (find_reply d) d ≡ Some x → IsReply d x
  pub complete : (x : Reply) → IsReply d x → reply_found (find_reply d) d ≡ Some x
  pub one : (x y : Reply) → IsReply d x → IsReply d y → x ≡ y

abbrev pub Readings : Type 0
Readings = (d : List ℕ) → AllBytes d → OneReading d
