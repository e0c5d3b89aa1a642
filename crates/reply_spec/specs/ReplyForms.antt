-- Source document 000, sections 4.5, 4.9, 4.14, 4.16 and 4.18: the language of the replies to the commands of document
-- 01. Each reply is given by its fields and the bytes that they make: nothing here says which reply a board sends, or
-- how a datagram is taken apart.
use Rattle.std.specs.Prelude.{ℕ, ◌/◌, ◌%◌, ◌≤◌, ◌≡◌, Bool, true, cond, not, ◌&&◌, List, [], ◌∷◌, ◌++◌, eqb, length}
use Rattle.buffer.specs.BigEndian.{bytes_of, two_bytes}
use Rattle.cmd_fields.specs.Commands.{Names, head_bytes}
use Rattle.cmd_fields.specs.declared.Form.{Form}

-- ---- fields that may be missing

-- A text: none, or characters and behind them the zero byte that ends them. An empty text is that byte alone, and is
-- not no text.
pub data Text : Type 0 where
  no_text : Text
  text : (characters : List ℕ) → Text

abbrev pub text_bytes : Text → List ℕ
text_bytes no_text = []
text_bytes (text characters) = characters ++ (0 ∷ [])

-- The lowest space of the options, byte 6: a text may stand only behind it. No lowest space is not space 0.
pub data Lowest : Type 0 where
  no_lowest : Lowest
  lowest : (space : ℕ) (name : Text) → Lowest

abbrev pub lowest_bytes : Lowest → List ℕ
lowest_bytes no_lowest = []
lowest_bytes (lowest space name) = space ∷ text_bytes name

-- The lowest address of a space, bytes 8 to 11. No lowest address is not address 0.
pub data LowestAddress : Type 0 where
  no_address : LowestAddress
  lowest_address : ℕ → LowestAddress

abbrev pub address_bytes : LowestAddress → List ℕ
address_bytes no_address = []
address_bytes (lowest_address a) = bytes_of a

-- ---- the replies, and their bytes

pub data Reply : Type 0 where
  -- 4.5 and 4.9, of a read and of a write. The form is how the reply names its space: by byte 6 or by the low two bits
  -- of byte 1.
  read : (form : Form) (space address : ℕ) (bytes : List ℕ) → Reply
  read_failure : (form : Form) (space address code : ℕ) (message : Text) → Reply
  write_done : (form : Form) (space address : ℕ) → Reply
  write_failure : (form : Form) (space address code : ℕ) (message : Text) → Reply
  -- 4.14: the available commands, the write lengths, the highest space and the lowest
  options : (commands lengths highest : ℕ) (low : Lowest) → Reply
  -- 4.16: whether the space is there, its number, the highest address, the flags, the lowest address
  information : (present : Bool) (space highest flags : ℕ) (low : LowestAddress) (description : Text) → Reply
  -- 4.18: who holds the lock
  locked : (id : List ℕ) → Reply

-- Document 01 says of them: "command + 0x10" of a read's; "Its command is 0x58, 0x18 or 0x18, plus the low two bits" of
-- the failures'; 20 82, 20 87 or 20 86, and 20 8A of the others.
abbrev pub reply_bytes : Reply → List ℕ
reply_bytes (read form space address bytes) = head_bytes 0x50 form space address ++ bytes
reply_bytes (read_failure form space address code message) =
    head_bytes 0x58 form space address ++ (two_bytes code ++ text_bytes message)
reply_bytes (write_done form space address) = head_bytes 0x10 form space address
reply_bytes (write_failure form space address code message) =
    head_bytes 0x18 form space address ++ (two_bytes code ++ text_bytes message)
reply_bytes (options commands lengths highest low) = 0x20 ∷ 0x82 ∷ (two_bytes commands ++ lengths ∷ highest ∷ lowest_bytes low)
reply_bytes (information present space highest flags low description) =
    0x20 ∷ cond present 0x87 0x86 ∷ space ∷ (bytes_of highest ++ flags ∷ (address_bytes low ++ text_bytes description))
reply_bytes (locked id) = 0x20 ∷ 0x8A ∷ id

-- ---- which of them there are

-- "it ends with its only zero byte"
unfoldable pub no_zero : List ℕ → Bool
no_zero [] = true
no_zero (c ∷ more) = not (eqb c 0) && no_zero more

abbrev pub Ended : Text → Type 0
Ended no_text = Unit {0}
Ended (text characters) = no_zero characters ≡ true

abbrev pub EndedBehind : Lowest → Type 0
EndedBehind no_lowest = Unit {0}
EndedBehind (lowest space name) = Ended name

-- Bit 1 of the flags, set if and only if there is a lowest address.
abbrev pub lowest_bit : LowestAddress → ℕ
lowest_bit no_address = 0
lowest_bit (lowest_address a) = 1

abbrev pub bit1 : ℕ → ℕ
bit1 flags = flags / 2 % 2

-- 1 to 64 bytes read; "in a failure reply 63 bytes at most with it"; an ID of six bytes.
unfoldable pub WellFormed : Reply → Type 0
WellFormed (read form space address bytes) = Names form space × (1 ≤ length bytes) × (length bytes ≤ 64)
WellFormed (read_failure form space address code message) = Names form space × Ended message × (length (text_bytes message) ≤ 63)
WellFormed (write_done form space address) = Names form space
WellFormed (write_failure form space address code message) = Names form space × Ended message × (length (text_bytes message) ≤ 63)
WellFormed (options commands lengths highest low) = EndedBehind low
WellFormed (information present space highest flags low description) = (bit1 flags ≡ lowest_bit low) × Ended description
WellFormed (locked id) = length id ≡ 6

-- The datagram d is this reply: "No reply is over 72 bytes." That numbers fit their bytes follows where d is made of
-- bytes (`buffer: Buffer.Bytes`).
abbrev pub IsReply : List ℕ → Reply → Type 0
IsReply d x = (reply_bytes x ≡ d) × WellFormed x × (length d ≤ 72)
