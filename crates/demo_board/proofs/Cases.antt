-- Document 01's proved cases, and the spaces of the board's table: computed from the definitions.
-- Assumes nothing.
use mathlib.Core.Path.{◌≡◌, refl, ap, ◌∙◌}
use mathlib.Core.List.{List}
use Prim.Native.Nat.{ℕ}
use lib.ListN.{replicate}
use Rattle.space_lookup.specs.Description.{find_space}
use Rattle.space_table.specs.Table.{row_at, spaces_from, spaces_in}
use Rattle.call_error.specs.CallErrors.{among, spaces_check, description_check}
use Rattle.cmd_fields.specs.Commands.{kind_of_command, head_bytes, rest_of}
use Rattle.cmd_decode.specs.Decoding.{decode_read, decode_write, decode_masked, decode_kind, decode}
use Rattle.buffer.specs.Buffer.{put_at, placed}
use Rattle.reply_datagram.specs.Inquiry.{information_reply}
use Rattle.exec_spec.specs.Access.{read_result, write_result, memory_after}
use Rattle.exec_spec.specs.Handling.{perform, handle}
use Rattle.demo_board.specs.Board.{row_of, demo_spaces}
use Rattle.demo_board.specs.Cases.{ProvedCases}

pub proved_cases : ProvedCases
unfolding description_check spaces_check among find_space kind_of_command rest_of decode_read decode_write decode_masked decode_kind decode put_at placed head_bytes information_reply read_result write_result memory_after perform handle
proved_cases = record { good = refl; answered = refl }

-- the four rows put into the table, one after the other
pub four_rows : {a b c d w x y z : List ℕ} → a ≡ row_of 0xFD 0 0 0 0x1F 0 → b ≡ row_of 0xFE 0 0 0 0x2F 0 → c ≡ row_of 0xFF 1 1 0 0xF 0 → d ≡ row_of 0x10 0 0 0x100 0x10F 32 →
    w ≡ placed 0 a (replicate 64 0) → x ≡ placed 16 b w → y ≡ placed 32 c x → z ≡ placed 48 d y → spaces_in z ≡ demo_spaces
unfolding row_at spaces_from put_at placed
four_rows {a} {b} {c} {d} {w} {x} {y} {z} p q r s e f g h =
    let t : z ≡ placed 48 (row_of 0x10 0 0 0x100 0x10F 32) (placed 32 (row_of 0xFF 1 1 0 0xF 0) (placed 16 (row_of 0xFE 0 0 0 0x2F 0) (placed 0 (row_of 0xFD 0 0 0 0x1F 0) (replicate 64 0)))) =
    h ∙ rw (s, g, r, f, q, e, p) in
    ap spaces_in t ∙ refl
