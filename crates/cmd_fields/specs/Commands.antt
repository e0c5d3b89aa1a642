-- Document 01, "Commands": the fields of a datagram, and the requests that it can make.
use Rattle.std.specs.Prelude.{ℕ, ◌+◌, ◌*◌, ◌/◌, ◌%◌, ◌≡◌, Bool, cond, ◌&&◌, List, [], ◌∷◌, ◌++◌, leb, eqb, get_or, drop}
use Rattle.buffer.specs.BigEndian.{number_of, bytes_of}
use Rattle.cmd_fields.specs.declared.Form.{Form}
use Rattle.cmd_fields.specs.declared.Form.TheVariants.{NoSpace, Byte6, Fd, Fe, Ff}
use Rattle.cmd_fields.specs.declared.Kind.{Kind}
use Rattle.cmd_fields.specs.declared.Kind.TheVariants.{Read, Write, WriteMasked, Options, Information, Lock, UpdateComplete, Unknown}

-- "pairs (mask, data)"
pub record Pair : Type 0 where
  pub mask : ℕ
  pub value : ℕ

abbrev pub pair : ℕ → ℕ → Pair
pair m v = record { mask = m; value = v }

unfoldable pub pairs_of : List ℕ → List Pair
pairs_of [] = []
pairs_of (m ∷ []) = []
pairs_of (m ∷ v ∷ more) = pair m v ∷ pairs_of more

-- What a datagram asks for. How it names the space, its form, stands beside the request and not in it.
pub data Request : Type 0 where
  read : (space address count : ℕ) → Request
  write : (space address : ℕ) (bytes : List ℕ) → Request
  write_masked : (space address : ℕ) (pairs : List Pair) → Request
  options : Request
  information : (space : ℕ) → Request
  reserve : (id : List ℕ) → Request
  update_complete : Request

-- A number in a range, both ends included.
abbrev pub within : ℕ → ℕ → ℕ → Bool
within low high c = leb low c && leb c high

-- "Read 0x40–0x43", "Write 0x00–0x03", "Masked write 0x08–0x0B", 0x80, 0x84, 0x88, 0xA8.
-- "All other commands, replies among them, are unknown."
unfoldable pub kind_of_command : ℕ → Kind
kind_of_command c =
    cond (within 0x40 0x43 c) Read
    (cond (within 0x00 0x03 c) Write
    (cond (within 0x08 0x0B c) WriteMasked
    (cond (eqb c 0x80) Options
    (cond (eqb c 0x84) Information
    (cond (eqb c 0x88) Lock
    (cond (eqb c 0xA8) UpdateComplete Unknown))))))

-- "In read, write and masked write the low two bits of byte 1 choose the space: 0 means byte 6,
-- and 1, 2, 3 mean 0xFD, 0xFE, 0xFF with no byte 6." The commands from 0x80 on have no such bits.
abbrev pub low_form : ℕ → Form
low_form low = cond (eqb low 0) Byte6 (cond (eqb low 1) Fd (cond (eqb low 2) Fe Ff))

abbrev pub form_of : ℕ → Form
form_of c = cond (leb 0x80 c) NoSpace (low_form (c % 4))

-- The low two bits again.
abbrev pub form_bits : Form → ℕ
form_bits NoSpace = 0
form_bits Byte6 = 0
form_bits Fd = 1
form_bits Fe = 2
form_bits Ff = 3

-- A command with the low two bits of a form.
abbrev pub with_form : ℕ → Form → ℕ
with_form command form = command / 4 * 4 + form_bits form

-- "the space byte if the command had one"
abbrev pub space_byte : Form → ℕ → List ℕ
space_byte NoSpace n = []
space_byte Byte6 n = n ∷ []
space_byte Fd n = []
space_byte Fe n = []
space_byte Ff n = []

-- The low two bits 1, 2, 3 name the spaces 0xFD, 0xFE, 0xFF, and byte 6 any.
abbrev pub Names : Form → ℕ → Type 0
Names NoSpace space = ⊥
Names Byte6 space = Unit {0}
Names Fd space = space ≡ 0xFD
Names Fe space = space ≡ 0xFE
Names Ff space = space ≡ 0xFF

-- The first bytes of every command and reply that has an address: 0x20, byte 1 with the low two bits of the form,
-- "Bytes 2–5 are the address, most significant first", and byte 6 only where the low two bits are zero.
unfoldable pub head_bytes : ℕ → Form → ℕ → ℕ → List ℕ
head_bytes command form space address = 0x20 ∷ with_form command form ∷ (bytes_of address ++ space_byte form space)

-- The number of the space.
abbrev pub space_of : Form → List ℕ → ℕ
space_of NoSpace d = 0
space_of Byte6 d = get_or d 6 0
space_of Fd d = 0xFD
space_of Fe d = 0xFE
space_of Ff d = 0xFF

-- "Bytes 2–5 are the address, most significant first."
abbrev pub address_of : List ℕ → ℕ
address_of d = number_of (get_or d 2 0) (get_or d 3 0) (get_or d 4 0) (get_or d 5 0)

-- How many bytes stand before the remaining ones, and these.
abbrev pub head_length : Form → ℕ
head_length NoSpace = 2
head_length Byte6 = 7
head_length Fd = 6
head_length Fe = 6
head_length Ff = 6

abbrev pub form_in : List ℕ → Form
form_in d = form_of (get_or d 1 0)

unfoldable pub rest_of : List ℕ → List ℕ
rest_of d = drop (head_length (form_in d)) d
