-- Document 01, "Refused because of the input", and document 02: the errors of the caller at each call, in the order in
-- which they are asked for. "House numbers, returned to the caller and never sent, checked first at each call; nothing
-- changes."
use Rattle.std.specs.Prelude.{ℕ, List, length, Ok}
use Rattle.call_error.specs.CallErrors.{or_else, Checked}
use Rattle.call_check.specs.Calls.{call_check}
use Rattle.rx_place_spec.specs.State.{State}
use Rattle.rx_join_spec.specs.StateCheck.{state_check}
use Rattle.exec_spec.specs.Handling.{Fixed, Contents}

-- ---- the errors

-- What comes before B7: B11 to B14, B2 to B5 and B6, with the reply buffer that is lent.
unfoldable pub earlier_check : Fixed → Contents → List ℕ → Checked
earlier_check x c buffer =
    call_check x.alias x.spaces (length x.flash) (length c.memory) (length buffer)

-- What comes after B7, which is `state_check`: nothing yet. Here B10, "after B7", B8, "after B10", and B15, "after B8",
-- find their place.
abbrev pub later_check : Fixed → Contents → Checked
later_check x c = Ok tt

-- ---- the first that applies at each call

-- The call for a whole datagram: no reception state is handed in, so B7 is not asked for.
unfoldable pub datagram_check : Fixed → Contents → List ℕ → Checked
datagram_check x c buffer = or_else (earlier_check x c buffer) (later_check x c)

-- The frame call.
unfoldable pub frame_check : Fixed → List ℕ → State → Contents → Checked
frame_check x buffer st c = or_else (earlier_check x c buffer) (or_else (state_check st) (later_check x c))

-- "one call brings a tick alone, testing only B7, now and later"
unfoldable pub tick_check : State → Checked
tick_check st = state_check st
