-- Document 01, "Refused because of the input": B7 as one of the checks of a call.
use Rattle.std.specs.Prelude.{cond, Ok, Err}
use Rattle.call_error.specs.declared.CallError.TheVariants.{B7BadReceptionState}
use Rattle.rx_place_spec.specs.State.{State}
use Rattle.rx_spec.specs.Reception.{sound}
use Rattle.call_error.specs.CallErrors.{Checked}

-- "B7, where a reception state is handed in: an unfinished datagram in it over 72 bytes, a source over 4,095, or one
-- source twice."
abbrev pub state_check : State → Checked
state_check st = cond (sound st.places) (Ok tt) (Err B7BadReceptionState)
