-- Worked examples of the two halves: the reply of a board to a request, and what the reader makes of it.
-- Assumes nothing.
use mathlib.Core.Path.{◌≡◌, refl}
use mathlib.Core.Bool.{true, false}
use mathlib.Core.List.{[], ◌∷◌}
use Rattle.can_frame.specs.Frame.{frame_of}
use Rattle.tool_read_ack.specs.Receipt.{read_received}
use Rattle.cmd_fields.specs.Commands as asked
use Rattle.cmd_fields.specs.Commands.{Request, head_bytes}
use Rattle.cmd_fields.specs.declared.Form.{Form}
use Rattle.cmd_fields.specs.declared.Form.TheVariants.{NoSpace, Byte6}
use Rattle.space_table.specs.declared.Space.{Space}
use Rattle.space_lookup.specs.Description.{find_space, lowest_number}
use Rattle.call_error.specs.CallErrors.{among, spaces_check, description_check}
use Rattle.exec_lock.specs.Lock.{all_zero, lock_after, test_and_set}
use Rattle.reply_spec.specs.ReplyForms.{no_text, lowest, lowest_address, Reply, read, read_failure, write_failure, options, information, locked}
use Rattle.reply_datagram.specs.Inquiry.{information_reply}
use Rattle.reply_answer.specs.Answers.{received_ok_reply}
use Rattle.reply_answer.specs.declared.Answer.TheVariants as answered
use Rattle.exec_registers.specs.Registers.{registers_at_start}
use Rattle.exec_spec.specs.Access.{read_result, write_result}
use Rattle.exec_spec.specs.Performing.{Fixed, fixed, Contents, contents, perform}
use Rattle.tool_read_spec.specs.Finding.{first_zero, is_text, kind_of_reply, find_read, failure_fits, find_options, find_information, find_locked, find_kind, find_reply, reply_found}
use Rattle.tool_meets_board_spec.specs.Meeting.{ReadBack, Acknowledges}
use Rattle.std.specs.Prelude.{Ok}

-- A board with one space of two addresses, from 16 on, and a lock that nobody holds.
abbrev space : Space
space = record { number = 0xFB; read_only = false; in_flash = false; lowest = 16; highest = 17; offset = 0 }

abbrev board : Fixed
board = fixed 0x123 0x70 (space ∷ []) []

abbrev unheld : Contents
unheld = contents (0xAA ∷ 0xBB ∷ []) registers_at_start

good : description_check 0x123 (space ∷ []) 0 2 ≡ Ok tt
unfolding description_check spaces_check among
good = refl

-- it replies to a request with these fields, and they are read in the bytes
abbrev Meets : Form → Request → Reply → Type 0
Meets form q y = ((perform board unheld form q).result ≡ received_ok_reply y) × ReadBack (received_ok_reply y)

-- a read of both bytes, and one at an address outside
both_bytes : Meets Byte6 (asked.read 0xFB 16 64) (read Byte6 0xFB 16 (0xAA ∷ 0xBB ∷ []))
unfolding perform find_space read_result head_bytes find_reply kind_of_reply find_kind find_read reply_found
both_bytes = (refl, refl)

outside : Meets Byte6 (asked.read 0xFB 0 64) (read_failure Byte6 0xFB 0 0x1082 no_text)
unfolding perform find_space read_result head_bytes find_reply kind_of_reply find_kind failure_fits is_text first_zero reply_found
outside = (refl, refl)

-- a write at such an address
write-outside : Meets Byte6 (asked.write 0xFB 0 (0x01 ∷ [])) (write_failure Byte6 0xFB 0 0x1082 no_text)
unfolding perform find_space write_result head_bytes find_reply kind_of_reply find_kind failure_fits is_text first_zero reply_found
write-outside = (refl, refl)

lowest-number : Meets NoSpace asked.options (options 0xE000 0x70 0xFF (lowest 0xFB no_text))
unfolding perform lowest_number find_reply kind_of_reply find_kind find_options is_text first_zero reply_found
lowest-number = (refl, refl)

lowest-address : Meets NoSpace (asked.information 0xFB) (information true 0xFB 17 2 (lowest_address 16) no_text)
unfolding perform find_space information_reply find_reply kind_of_reply find_kind find_information is_text first_zero reply_found
lowest-address = (refl, refl)

lock-taken : Meets NoSpace (asked.reserve (1 ∷ 2 ∷ 3 ∷ 4 ∷ 5 ∷ 6 ∷ [])) (locked (1 ∷ 2 ∷ 3 ∷ 4 ∷ 5 ∷ 6 ∷ []))
unfolding perform test_and_set lock_after all_zero find_reply kind_of_reply find_kind find_locked reply_found
lock-taken = (refl, refl)

-- the Received OK before a reply
announced : Acknowledges (answered.Replied 8) (frame_of 0x19A28123 (0x04 ∷ 0x56 ∷ 0x80 ∷ []))
unfolding frame_of read_received
announced = refl
