-- `print_unknown` meets its contract.
-- Assumes nothing.
use mathlib.Core.Path.{refl, sym, ◌∙◌}
use Rattle.gridconnect_print.specs.Line.{unknown_text}
use Rattle.gridconnect_print.proofs.LineLaws.{not-printed, printed}
use Rattle.gridconnect_print.proofs.print_unknown.Goals as goal

pub returns-then-not-has_room : goal.returns-then-not-has_room
returns-then-not-has_room c =
    let a = c.args in
    not-printed a.at unknown_text a.out.now (sym c.has_room.ensures ∙ c.if-not-has_room.true)

pub returns : goal.returns
returns c =
    let a = c.args in
    printed a.at unknown_text a.out.now 2 refl (sym c.has_room.ensures ∙ c.if-not-has_room.false) c.put_pair.ensures
