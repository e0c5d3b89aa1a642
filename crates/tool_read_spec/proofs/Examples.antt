-- Worked examples of replies: what is found in a datagram.
-- Assumes nothing.
use Prim.Native.Nat.{ℕ}
use mathlib.Core.Path.{◌≡◌, refl}
use mathlib.Core.Bool.{true, false}
use mathlib.Core.List.{List, [], ◌∷◌, ◌++◌}
use Rattle.std.proofs.Common.{Option, None, Some}
use lib.ListN.{replicate}
use Rattle.cmd_fields.specs.declared.Form.TheVariants.{Byte6, Fd, Fe, Ff}
use Rattle.reply_spec.specs.ReplyForms.{no_text, text, no_lowest, lowest, no_address, lowest_address, Reply, read, read_failure, write_done, write_failure, options, information, locked}
use Rattle.tool_read_spec.specs.Finding.{first_zero, is_text, kind_of_reply, find_read, find_written, failure_fits, find_options, find_information, find_locked, find_kind, find_reply, reply_found}

abbrev found : List ℕ → Option Reply
found d = reply_found (find_reply d) d

-- ---- texts

no_bytes : is_text [] ≡ true
unfolding is_text first_zero
no_bytes = refl

one-zero : is_text (65 ∷ 0 ∷ []) ≡ true
unfolding is_text first_zero
one-zero = refl

without_its_zero : is_text (65 ∷ []) ≡ false
unfolding is_text first_zero
without_its_zero = refl

two_zeros : is_text (65 ∷ 0 ∷ 0 ∷ []) ≡ false
unfolding is_text first_zero
two_zeros = refl

-- ---- reads

-- one byte by byte 6, and 64 by the low two bits
one_byte : found (0x20 ∷ 0x50 ∷ 0x12 ∷ 0x34 ∷ 0x56 ∷ 0x78 ∷ 0xFB ∷ 0xAA ∷ []) ≡ Some (read Byte6 0xFB 0x12345678 (0xAA ∷ []))
unfolding find_reply kind_of_reply find_kind find_read reply_found
one_byte = refl

all-bytes : found (0x20 ∷ 0x51 ∷ 0 ∷ 0 ∷ 0 ∷ 1 ∷ replicate 64 0xAA) ≡ Some (read Fd 0xFD 1 (replicate 64 0xAA))
unfolding find_reply kind_of_reply find_kind find_read reply_found
all-bytes = refl

no_byte : found (0x20 ∷ 0x51 ∷ 0 ∷ 0 ∷ 0 ∷ 1 ∷ []) ≡ None
unfolding find_reply kind_of_reply find_kind find_read reply_found
no_byte = refl

byte_65 : found (0x20 ∷ 0x51 ∷ 0 ∷ 0 ∷ 0 ∷ 1 ∷ replicate 65 0xAA) ≡ None
unfolding find_reply kind_of_reply find_kind find_read reply_found
byte_65 = refl

-- a failure: its code, most significant byte first, and a message of 63 bytes at most with its zero byte
code-alone : found (0x20 ∷ 0x5A ∷ 0 ∷ 0 ∷ 0 ∷ 1 ∷ 0x10 ∷ 0x82 ∷ []) ≡ Some (read_failure Fe 0xFE 1 0x1082 no_text)
unfolding find_reply kind_of_reply find_kind failure_fits is_text first_zero reply_found
code-alone = refl

empty-message : found (0x20 ∷ 0x5A ∷ 0 ∷ 0 ∷ 0 ∷ 1 ∷ 0x10 ∷ 0x82 ∷ 0 ∷ []) ≡ Some (read_failure Fe 0xFE 1 0x1082 (text []))
unfolding find_reply kind_of_reply find_kind failure_fits is_text first_zero reply_found
empty-message = refl

long_message : found (0x20 ∷ 0x5A ∷ 0 ∷ 0 ∷ 0 ∷ 1 ∷ 0x10 ∷ 0x82 ∷ (replicate 62 65 ++ 0 ∷ [])) ≡ Some (read_failure Fe 0xFE 1 0x1082 (text (replicate 62 65)))
unfolding find_reply kind_of_reply find_kind failure_fits is_text first_zero reply_found
long_message = refl

longer_message : found (0x20 ∷ 0x5A ∷ 0 ∷ 0 ∷ 0 ∷ 1 ∷ 0x10 ∷ 0x82 ∷ (replicate 63 65 ++ 0 ∷ [])) ≡ None
unfolding find_reply kind_of_reply find_kind failure_fits is_text first_zero reply_found
longer_message = refl

-- ---- writes

done : found (0x20 ∷ 0x13 ∷ 0 ∷ 0 ∷ 0 ∷ 1 ∷ []) ≡ Some (write_done Ff 0xFF 1)
unfolding find_reply kind_of_reply find_kind find_written reply_found
done = refl

done-with_more : found (0x20 ∷ 0x13 ∷ 0 ∷ 0 ∷ 0 ∷ 1 ∷ 0xAA ∷ []) ≡ None
unfolding find_reply kind_of_reply find_kind find_written reply_found
done-with_more = refl

write-failed : found (0x20 ∷ 0x18 ∷ 0 ∷ 0 ∷ 0 ∷ 1 ∷ 0xFB ∷ 0x10 ∷ 0x83 ∷ []) ≡ Some (write_failure Byte6 0xFB 1 0x1083 no_text)
unfolding find_reply kind_of_reply find_kind failure_fits is_text first_zero reply_found
write-failed = refl

-- ---- options: no lowest space, space 0, and a name behind it

no_lowest-space : found (0x20 ∷ 0x82 ∷ 0xE0 ∷ 0 ∷ 0x70 ∷ 0xFF ∷ []) ≡ Some (options 0xE000 0x70 0xFF no_lowest)
unfolding find_reply kind_of_reply find_kind find_options is_text first_zero reply_found
no_lowest-space = refl

lowest-space-0 : found (0x20 ∷ 0x82 ∷ 0xE0 ∷ 0 ∷ 0x70 ∷ 0xFF ∷ 0 ∷ []) ≡ Some (options 0xE000 0x70 0xFF (lowest 0 no_text))
unfolding find_reply kind_of_reply find_kind find_options is_text first_zero reply_found
lowest-space-0 = refl

name_behind : found (0x20 ∷ 0x82 ∷ 0xE0 ∷ 0 ∷ 0x70 ∷ 0xFF ∷ 0xFB ∷ 65 ∷ 0 ∷ []) ≡ Some (options 0xE000 0x70 0xFF (lowest 0xFB (text (65 ∷ []))))
unfolding find_reply kind_of_reply find_kind find_options is_text first_zero reply_found
name_behind = refl

-- ---- space information: with bit 1 of the flags a lowest address stands behind them, and without it a description may

lowest-given : found (0x20 ∷ 0x87 ∷ 0xFB ∷ 0 ∷ 0 ∷ 0 ∷ 0xFF ∷ 2 ∷ 0 ∷ 0 ∷ 0 ∷ 0x10 ∷ []) ≡ Some (information true 0xFB 0xFF 2 (lowest_address 0x10) no_text)
unfolding find_reply kind_of_reply find_kind find_information is_text first_zero reply_found
lowest-given = refl

lowest-not-given : found (0x20 ∷ 0x87 ∷ 0xFB ∷ 0 ∷ 0 ∷ 0 ∷ 0xFF ∷ 1 ∷ 65 ∷ 66 ∷ 67 ∷ 0 ∷ []) ≡ Some (information true 0xFB 0xFF 1 no_address (text (65 ∷ 66 ∷ 67 ∷ [])))
unfolding find_reply kind_of_reply find_kind find_information is_text first_zero reply_found
lowest-not-given = refl

not_there : found (0x20 ∷ 0x86 ∷ 0xFB ∷ 0 ∷ 0 ∷ 0 ∷ 0 ∷ 0 ∷ []) ≡ Some (information false 0xFB 0 0 no_address no_text)
unfolding find_reply kind_of_reply find_kind find_information is_text first_zero reply_found
not_there = refl

-- ---- the lock

six-bytes : found (0x20 ∷ 0x8A ∷ 1 ∷ 2 ∷ 3 ∷ 4 ∷ 5 ∷ 6 ∷ []) ≡ Some (locked (1 ∷ 2 ∷ 3 ∷ 4 ∷ 5 ∷ 6 ∷ []))
unfolding find_reply kind_of_reply find_kind find_locked reply_found
six-bytes = refl

five_bytes : found (0x20 ∷ 0x8A ∷ 1 ∷ 2 ∷ 3 ∷ 4 ∷ 5 ∷ []) ≡ None
unfolding find_reply kind_of_reply find_kind find_locked reply_found
five_bytes = refl

-- ---- the length of any reply

-- the longest description, and one byte more
byte_72 : found (0x20 ∷ 0x86 ∷ 0xFB ∷ 0 ∷ 0 ∷ 0 ∷ 0 ∷ 0 ∷ (replicate 63 65 ++ 0 ∷ [])) ≡ Some (information false 0xFB 0 0 no_address (text (replicate 63 65)))
unfolding find_reply kind_of_reply find_kind find_information is_text first_zero reply_found
byte_72 = refl

byte_73 : found (0x20 ∷ 0x86 ∷ 0xFB ∷ 0 ∷ 0 ∷ 0 ∷ 0 ∷ 0 ∷ (replicate 64 65 ++ 0 ∷ [])) ≡ None
unfolding find_reply kind_of_reply find_kind find_information is_text first_zero reply_found
byte_73 = refl
