-- Document 01, "Commands", 0x80 and 0x84: what the board replies, by the fields of the reply. "These replies carry no
-- text."
use Rattle.std.specs.Prelude.{ℕ, ◌+◌, true, false, cond, List, eqb}
use Rattle.reply_spec.specs.ReplyForms.{no_text, lowest, no_address, lowest_address, Reply, options, information}
use Rattle.space_lookup.specs.Description.{lowest_number}
use Rattle.space_table.specs.declared.Space.{Space}
use Rattle.space_lookup.specs.declared.Found.{Found}
use Rattle.space_lookup.specs.declared.Found.TheVariants.{Described, Empty, Unknown}

-- "reply 20 82 E0 00, Write Lengths, FF, then the lowest number among the described spaces and 0xFD"
abbrev pub options_reply : ℕ → List Space → Reply
options_reply write_lengths spaces = options 0xE000 write_lengths 0xFF (lowest (lowest_number spaces) no_text)

-- "Flags: bit 0 read-only, bit 1 lowest given."
abbrev pub access_flag : Space → ℕ
access_flag s = cond s.read_only 1 0

-- "A space not described: 20 86, space, five zero bytes."
abbrev pub absent_reply : ℕ → Reply
absent_reply n = information false n 0 0 no_address no_text

-- "20 87, space, highest, flags, and lowest only if not zero"
unfoldable pub information_reply : ℕ → Found → Reply
information_reply n (Described s) =
    cond (eqb s.lowest 0)
    (information true n s.highest (access_flag s) no_address no_text)
    (information true n s.highest (access_flag s + 2) (lowest_address s.lowest) no_text)
information_reply n (Empty read_only) = absent_reply n
information_reply n Unknown = absent_reply n
