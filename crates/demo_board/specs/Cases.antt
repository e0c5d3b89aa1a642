-- Document 01, "Whole datagrams, each on a fresh board; † are the proved ones": one list, and one statement about the
-- definitions.
use Rattle.std.specs.Prelude.{ℕ, ◌≡◌, List, [], ◌∷◌, map, length, replicate, Ok}
use Rattle.call_error.specs.CallErrors.{description_check}
use Rattle.reply_answer.specs.Answers.{Result, datagram_rejected, received_ok_reply}
use Rattle.exec_spec.specs.Handling.{outcome, handle}
use Rattle.demo_board.specs.Board.{demo_alias, demo_spaces, demo_flash, demo_memory, demo_fixed, demo_contents}

-- A datagram, and how it is answered.
pub record Case : Type 0 where
  pub sent : List ℕ
  pub result : Result

abbrev pub case : List ℕ → Result → Case
case d r = record { sent = d; result = r }

abbrev pub cases : List Case
cases =
    case [] (datagram_rejected 0x1080)
    ∷ case (0x20 ∷ []) (datagram_rejected 0x1080)
    ∷ case (0x21 ∷ []) (datagram_rejected 0x1042)
    ∷ case (0x20 ∷ 0x44 ∷ []) (datagram_rejected 0x1041)
    ∷ case (0x20 ∷ 0x41 ∷ 0x00 ∷ 0x00 ∷ 0x00 ∷ 0x1F ∷ 0x40 ∷ []) (received_ok_reply (0x20 ∷ 0x51 ∷ 0x00 ∷ 0x00 ∷ 0x00 ∷ 0x1F ∷ 0x00 ∷ []))
    ∷ case (0x20 ∷ 0x41 ∷ 0x00 ∷ 0x00 ∷ 0x00 ∷ 0x20 ∷ 0x01 ∷ []) (received_ok_reply (0x20 ∷ 0x59 ∷ 0x00 ∷ 0x00 ∷ 0x00 ∷ 0x20 ∷ 0x10 ∷ 0x82 ∷ []))
    ∷ case (0x20 ∷ 0x43 ∷ 0x00 ∷ 0x00 ∷ 0x00 ∷ 0x00 ∷ 0xC0 ∷ [])
    (received_ok_reply (0x20 ∷ 0x53 ∷ 0x00 ∷ 0x00 ∷ 0x00 ∷ 0x00 ∷ 0x3C ∷ 0x63 ∷ 0x64 ∷ 0x69 ∷ 0x2F ∷ 0x3E ∷ replicate 10 0x00))
    ∷ case (0x20 ∷ 0x01 ∷ 0x00 ∷ 0x00 ∷ 0x00 ∷ 0x1F ∷ 0x11 ∷ 0x22 ∷ []) (received_ok_reply (0x20 ∷ 0x19 ∷ 0x00 ∷ 0x00 ∷ 0x00 ∷ 0x1F ∷ 0x10 ∷ 0x82 ∷ []))
    ∷ case (0x20 ∷ 0x03 ∷ 0x00 ∷ 0x00 ∷ 0x00 ∷ 0x20 ∷ 0x01 ∷ []) (received_ok_reply (0x20 ∷ 0x1B ∷ 0x00 ∷ 0x00 ∷ 0x00 ∷ 0x20 ∷ 0x10 ∷ 0x83 ∷ []))
    ∷ case (0x20 ∷ 0x09 ∷ 0x00 ∷ 0x00 ∷ 0x00 ∷ 0x00 ∷ 0x0F ∷ []) (datagram_rejected 0x1080)
    ∷ case (0x20 ∷ 0x84 ∷ 0x10 ∷ [])
    (received_ok_reply (0x20 ∷ 0x87 ∷ 0x10 ∷ 0x00 ∷ 0x00 ∷ 0x01 ∷ 0x0F ∷ 0x02 ∷ 0x00 ∷ 0x00 ∷ 0x01 ∷ 0x00 ∷ []))
    ∷ []

-- The demonstration board has no error; and each of the cases, on a fresh one, is answered so and leaves
-- memory and the registers as they were.
pub record ProvedCases : Type 0 where
  pub good : description_check demo_alias demo_spaces (length demo_flash) (length demo_memory) ≡ Ok tt
  pub answered : map (λ c. handle demo_fixed demo_contents c.sent) cases ≡ map (λ c. outcome c.result demo_contents) cases
