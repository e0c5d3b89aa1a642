-- Document 01, "Refused because of the input", the codes sent as Rejected, in their order; and what a datagram asks for
-- where none applies.
use Rattle.std.specs.Prelude.{ℕ, ◌≡◌, Bool, cond, not, ◌&&◌, ◌||◌, Result, Ok, Err, List, ltb, eqb, length, get_or, drop}
use Rattle.cmd_fields.specs.Commands.{Request, read, write, write_masked, options, information, reserve, update_complete, pairs_of, kind_of_command, form_in, space_of, address_of, rest_of}
use Rattle.cmd_limits.specs.Limits.{count_in, count_fits, bytes_fit, pairs_fit}
use Rattle.cmd_fields.specs.declared.Form.{Form}
use Rattle.cmd_fields.specs.declared.Form.TheVariants.{NoSpace}
use Rattle.cmd_fields.specs.declared.Kind.{Kind}
use Rattle.cmd_fields.specs.declared.Kind.TheVariants.{Read, Write, WriteMasked, Options, Information, Lock, UpdateComplete, Unknown}
use Rattle.cmd_decode.specs.declared.Head.{Head}
use Rattle.cmd_decode.specs.declared.Command.{Command}
use Rattle.cmd_decode.specs.declared.Command.TheVariants as command
use Rattle.reply_answer.specs.declared.Rejection.{Rejection}
use Rattle.reply_answer.specs.declared.Rejection.TheVariants.{InvalidArguments, UnknownCommand, UnknownDatagramType}

-- A datagram is a request, with the form that names its space, or is rejected.
pub data Reading : Type 0 where
  rejected : Rejection → Reading
  request : Form → Request → Reading

-- "0x1080 wrong length, odd pairs or bad count"
abbrev pub or_wrong : Bool → Reading → Reading
or_wrong right reading = cond right reading (rejected InvalidArguments)

-- "exactly one count byte; its top bit is ignored; the rest must be 1–64"
abbrev pub count_of : List ℕ → ℕ
count_of d = count_in (get_or (rest_of d) 0 0)

unfoldable pub decode_read : List ℕ → Reading
decode_read d =
    or_wrong (eqb (length (rest_of d)) 1 && count_fits (count_of d))
    (request (form_in d) (read (space_of (form_in d) d) (address_of d) (count_of d)))

-- "1–64 data bytes"
unfoldable pub decode_write : List ℕ → Reading
decode_write d =
    or_wrong (bytes_fit (length (rest_of d)))
    (request (form_in d) (write (space_of (form_in d) d) (address_of d) (rest_of d)))

-- "1–32 pairs (mask, data)"
unfoldable pub decode_masked : List ℕ → Reading
decode_masked d =
    or_wrong (pairs_fit (length (rest_of d)))
    (request (form_in d) (write_masked (space_of (form_in d) d) (address_of d) (pairs_of (rest_of d))))

-- "0x80, two bytes long", "0x84, three bytes", "0x88, eight bytes", "0xA8, two bytes"; "0x1041 unknown command"
unfoldable pub decode_kind : Kind → List ℕ → Reading
decode_kind Read d = decode_read d
decode_kind Write d = decode_write d
decode_kind WriteMasked d = decode_masked d
decode_kind Options d = or_wrong (eqb (length d) 2) (request NoSpace options)
decode_kind Information d = or_wrong (eqb (length d) 3) (request NoSpace (information (get_or d 2 0)))
decode_kind Lock d = or_wrong (eqb (length d) 8) (request NoSpace (reserve (drop 2 d)))
decode_kind UpdateComplete d = or_wrong (eqb (length d) 2) (request NoSpace update_complete)
decode_kind Unknown d = rejected UnknownCommand

-- "Sent as Rejected, in this order: 0x1080 empty or over 72 bytes; 0x1042 byte 0 not 0x20; 0x1080 no byte 1;
-- 0x1041 unknown command; 0x1080 wrong length, odd pairs or bad count."
unfoldable pub decode : List ℕ → Reading
decode d =
    cond (eqb (length d) 0 || ltb 72 (length d)) (rejected InvalidArguments)
    (cond (not (eqb (get_or d 0 0) 0x20)) (rejected UnknownDatagramType)
    (cond (eqb (length d) 1) (rejected InvalidArguments)
    (decode_kind (kind_of_command (get_or d 1 0)) d)))

-- ---- what the code gives back

-- A command of the code, with the remaining bytes of its datagram, as a request.
abbrev pub request_of : Command → List ℕ → Request
request_of (command.Read s a n) rest = read s a n
request_of (command.Write s a) rest = write s a rest
request_of (command.WriteMasked s a) rest = write_masked s a (pairs_of rest)
request_of command.Options rest = options
request_of (command.Information s) rest = information s
request_of command.Lock rest = reserve rest
request_of command.UpdateComplete rest = update_complete

abbrev pub reading_of : Result (Form × Command) Rejection → List ℕ → Reading
reading_of (Ok accepted) d = request accepted.0 (request_of accepted.1 (rest_of d))
reading_of (Err rejection) d = rejected rejection

-- The form, the space and the address of a read, a write or a masked write, and how many bytes remain.
abbrev pub HeadOf : Head → List ℕ → Type 0
HeadOf h d =
    (h.form ≡ form_in d) × (h.space ≡ space_of (form_in d) d) × (h.address ≡ address_of d)
    × (h.remaining ≡ length (rest_of d))

-- A command of a fixed length, as the code gives it.
abbrev pub of_fixed_length : ℕ → List ℕ → Command → Result (Form × Command) Rejection
of_fixed_length n d c = cond (eqb (length d) n) (Ok (NoSpace, c)) (Err InvalidArguments)
