-- Document 01, "The demonstration board": the session, "Input" and "It prints exactly this".
use Rattle.std.specs.Prelude.{◌≡◌, replicate}
use Prim.Native.String.{String}
use Rattle.rx_place_spec.specs.State.{State}
use Rattle.rx_place_spec.specs.PlaceBytes.{state_in}
use Rattle.gridconnect_session_spec.specs.Session.{session}
use Rattle.demo_board.specs.Board.{demo_fixed, demo_contents}
use Rattle.demo_board.specs.Text.{bytes_of_text}

abbrev pub session_input : String
session_input = ":X1A22B123N200100000002ABCD;\n:X1B22B123N200800000002FD0F;\n:X1A22B456N20410000000202;\n:X1D22B123N5A;\n:X1A22B456N20410000000202;\n:X1A22B123N20030000000001;\n:X1A300123N2080;\n"

abbrev pub session_output : String
session_output = ":X19A2822BN012300;\n:X19A2822BN045680;\n:X1A45622BN205100000002ABCD;\n:X19A2822BN012300;\n:X19A2822BN045680;\n:X1A45622BN205100000002AACD;\n:X19A2822BN012380;\n:X1A12322BN201B000000001083;\n"

-- Nothing unfinished: eight free places, and the pool as the program starts with it.
abbrev pub demo_state : State
demo_state = state_in (replicate 64 0) (replicate 576 0)

-- The session's text is what the paper prints.
abbrev pub PaperSession : Type 0
PaperSession = (session demo_fixed demo_state demo_contents (bytes_of_text session_input)).text ≡ bytes_of_text session_output
