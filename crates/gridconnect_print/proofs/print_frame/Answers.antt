-- `print_frame` meets its contract.
-- Assumes nothing.
use Prim.Native.Nat.{ℕ, ◌+◌}
use mathlib.Core.Path.{◌≡◌, refl, sym, ◌∙◌}
use mathlib.Core.Bool.{Bool, true, false, cond}
use mathlib.Core.List.{List, []}
use native.Mathlib.Nat.{add-zero}
use native.Mathlib.Omega.{arith}
use borrow.Author.Rules.{rules}
use lib.Dec.{leb}
use lib.ListN.{length}
use Rattle.buffer.specs.Buffer.{placed}
use Rattle.buffer.proofs.Laws.{put_nil}
use Rattle.gridconnect_print.specs.Line.{end_of, Printed}
use Rattle.gridconnect_print.proofs.LineLaws.{no_line, text-length, not-printed, printed}
use Rattle.gridconnect_print.proofs.print_frame.Goals as goal

-- a frame of too many bytes
either : {A : Type 0} (b : Bool) {x y : A} → x ≡ y → y ≡ cond b x y
either true e = sym e
either false e = refl

nothing : (at : ℕ) (buffer : List ℕ) → Printed at [] buffer at buffer
unfolding end_of placed
nothing at buffer = record { end = either (leb (at + 0) (length buffer)) (add-zero at); out = either (leb (at + 0) (length buffer)) (put_nil at buffer) }

pub returns-then-frame-gt8 : goal.returns-then-frame-gt8
returns-then-frame-gt8 c =
    let a = c.args in
    rw (no_line a.frame c.if-frame-gt8.true) (nothing a.at a.out.now)

-- how long the line is, and whether it has room
pub returns-then-not-has_room : goal.returns-then-not-has_room
returns-then-not-has_room c =
    let f = c.args.frame in
    let full : length f.bytes ≡ 8 = search rules in
    not-printed _ _ _ (rw (← text-length f (omega arith) full) (sym c.has_room.ensures ∙ c.if-not-has_room.true))

pub returns : goal.returns
returns c =
    let f = c.args.frame in
    let full : length f.bytes ≡ 8 = search rules in
    printed _ _ _ _ (text-length f (omega arith) full) (sym c.has_room.ensures ∙ c.if-not-has_room.false) c.put_line.ensures
