-- Document 02, C-12: "a writer for every command in document 01, in one form only".
use Rattle.std.specs.Prelude.{ℕ, ◌≤◌, ◌≡◌, Bool, true, cond, not, ◌&&◌, List, [], ◌∷◌, ◌++◌, leb, ltb, eqb, length, get_or, Result, Ok, Err}
use Rattle.buffer.specs.Buffer.{over, AllBytes}
use Rattle.cmd_limits.specs.Limits.{count_fits, bytes_fit}
use Rattle.cmd_fields.specs.Commands.{Pair, Request, read, write, write_masked, options, information, reserve, update_complete, within, kind_of_command, head_bytes, form_in, rest_of}
use Rattle.cmd_fields.specs.declared.Form.{Form}
use Rattle.cmd_fields.specs.declared.Form.TheVariants.{NoSpace, Byte6, Fd, Fe, Ff}
use Rattle.cmd_fields.specs.declared.Kind.{Kind}
use Rattle.cmd_fields.specs.declared.Kind.TheVariants.{Read, Write, WriteMasked, Options, Information, Lock, UpdateComplete, Unknown}
use Rattle.cmd_decode.specs.Decoding.{request, decode}
use Rattle.tool_write_spec.specs.declared.WriteError.{WriteError}
use Rattle.tool_write_spec.specs.declared.WriteError.TheVariants.{OutOfRange, NoRoom}

-- ---- the one form

-- "spaces 0xFD to 0xFF by the control bits, others by byte 6"
abbrev pub form_for : ℕ → Form
form_for space = cond (eqb space 0xFD) Fd (cond (eqb space 0xFE) Fe (cond (eqb space 0xFF) Ff Byte6))

-- The first bytes of a command with an address, in that form.
abbrev pub opening : ℕ → ℕ → ℕ → List ℕ
opening command space address = head_bytes command (form_for space) space address

-- "pairs (mask, data)" as bytes
unfoldable pub pair_bytes : List Pair → List ℕ
pair_bytes [] = []
pair_bytes (p ∷ more) = p.mask ∷ p.value ∷ pair_bytes more

-- The command of each request. The count of a read that is in range has its top bit, which is reserved, at zero.
unfoldable pub command_for : Request → List ℕ
command_for (read space address count) = opening 0x40 space address ++ (count ∷ [])
command_for (write space address bytes) = opening 0x00 space address ++ bytes
command_for (write_masked space address pairs) = opening 0x08 space address ++ pair_bytes pairs
command_for options = 0x20 ∷ 0x80 ∷ []
command_for (information space) = 0x20 ∷ 0x84 ∷ space ∷ []
command_for (reserve id) = 0x20 ∷ 0x88 ∷ id
command_for update_complete = 0x20 ∷ 0xA8 ∷ []

-- ---- the refusals

-- Whether count and lengths are in range: a count of 1–64, "1–64 data bytes", "1–32 pairs", an ID of six bytes.
unfoldable pub in_range : Request → Bool
in_range (read space address count) = count_fits count
in_range (write space address bytes) = bytes_fit (length bytes)
in_range (write_masked space address pairs) = leb 1 (length pairs) && leb (length pairs) 32
in_range options = true
in_range (information space) = true
in_range (reserve id) = eqb (length id) 6
in_range update_complete = true

-- What comes of writing a request: refused by W1 or W2, or its command.
pub data Writing : Type 0 where
  w1 : Writing
  w2 : Writing
  command : List ℕ → Writing

-- "The writer refuses with W1 a count or length out of range, then with W2 a lent buffer under 72 bytes". `whole` says
-- that the bytes handed in for pairs are pairs: an odd byte is none, and a length out of range.
unfoldable pub writing : Bool → Request → ℕ → Writing
writing whole q room = cond (whole && in_range q) (cond (leb 72 room) (command (command_for q)) w2) w1

-- The same of a command whose request is in range: W2 is the only refusal.
abbrev pub in_room : List ℕ → ℕ → Writing
in_room bytes room = cond (leb 72 room) (command bytes) w2

-- ---- the one form, said of a datagram and not of the writer

-- "spaces 0xFD to 0xFF by the control bits, others by byte 6": byte 6 names none of the three. The control bits can
-- name no other space.
abbrev pub space_in_form : Form → ℕ → Bool
space_in_form NoSpace byte6 = true
space_in_form Byte6 byte6 = not (within 0xFD 0xFF byte6)
space_in_form Fd byte6 = true
space_in_form Fe byte6 = true
space_in_form Ff byte6 = true

-- "reserved bits zero". The commands of document 01 have one such bit: of a read's count byte, "its top bit is
-- ignored".
abbrev pub reserved_zero : Kind → ℕ → Bool
reserved_zero Read count = ltb count 128
reserved_zero Write content = true
reserved_zero WriteMasked content = true
reserved_zero Options content = true
reserved_zero Information content = true
reserved_zero Lock content = true
reserved_zero UpdateComplete content = true
reserved_zero Unknown content = true

-- Whether a datagram is in the one form: both, by its own bytes. A read's count is the first byte that remains.
unfoldable pub in_one_form : List ℕ → Bool
in_one_form d = space_in_form (form_in d) (get_or d 6 0) && reserved_zero (kind_of_command (get_or d 1 0)) (get_or (rest_of d) 0 0)

-- ---- what holds of the one form

-- The form that names the space of a request's command.
abbrev pub form_written : Request → Form
form_written (read space address count) = form_for space
form_written (write space address bytes) = form_for space
form_written (write_masked space address pairs) = form_for space
form_written options = NoSpace
form_written (information space) = NoSpace
form_written (reserve id) = NoSpace
form_written update_complete = NoSpace

-- Of a request in range. Its numbers need no bound here: in the code they are bytes and numbers of 32 bits, and what is
-- said holds of others too.
pub record OneForm (q : Request) : Type 0 where
  -- "the board's reading of the writer's bytes is that request"
  pub read_back : decode (command_for q) ≡ request (form_written q) q
  -- "unequal requests have unequal bytes"
  pub unlike : (p : Request) → in_range p ≡ true → command_for p ≡ command_for q → p ≡ q
  -- "Of the forms the board accepts for a request, none is shorter than the writer's."
  pub shortest : (d : List ℕ) (form : Form) → decode d ≡ request form q → length (command_for q) ≤ length d
  -- "in one form only": the writer's bytes are in that form,
  pub in_form : in_one_form (command_for q) ≡ true
  -- and no other bytes that the board reads as the request are.
  pub only : (d : List ℕ) (form : Form) → AllBytes d → decode d ≡ request form q → in_one_form d ≡ true → d ≡ command_for q

-- Whatever the board reads as a request is in range: the writer writes it.
abbrev pub AllInRange : Type 0
AllInRange = (d : List ℕ) (form : Form) (q : Request) → decode d ≡ request form q → in_range q ≡ true

-- "For each request with lengths in range", whether or not a function of the code writes it.
pub record EveryRequest : Type 0 where
  pub one_form : (q : Request) → in_range q ≡ true → OneForm q
  pub all_in_range : AllInRange

-- ---- what the code gives back

-- The answer of the code: OutOfRange is W1, NoRoom is W2, and else the answer is the length of the command.
abbrev pub command_answer : Writing → Result ℕ WriteError
command_answer w1 = Err OutOfRange
command_answer w2 = Err NoRoom
command_answer (command bytes) = Ok (length bytes)

-- The lent buffer afterwards: "leaving it untouched, as it always leaves bytes past the command".
abbrev pub command_buffer : Writing → List ℕ → List ℕ
command_buffer w1 buffer = buffer
command_buffer w2 buffer = buffer
command_buffer (command bytes) buffer = over bytes buffer

-- The answer r and the buffer `after` are what comes of writing q, over the buffer `before`.
pub record CommandWrites (whole : Bool) (q : Request) (r : Result ℕ WriteError) (before after : List ℕ) : Type 0 where
  pub answer : r ≡ command_answer (writing whole q (length before))
  pub buffer : after ≡ command_buffer (writing whole q (length before)) before
