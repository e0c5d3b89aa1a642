-- `tx_cut::cut_from` meets its contract.
-- Assumes nothing.
use mathlib.Core.Path.{◌≡◌, sym, ◌∙◌}
use mathlib.Core.Bool.{true, false, ◌&&◌}
use Prim.Native.Nat.{◌+◌, ◌*◌}
use native.Mathlib.Omega.{arith}
use lib.Dec.{leb}
use lib.ListN.{length}
use Rattle.buffer.proofs.Laws.{put_nil}
use Rattle.tx_cut_spec.specs.Cutting.{aliases}
use Rattle.tx_cut_spec.proofs.CutLaws.{cut_none, cut_all, cut_fits}
use Rattle.tx_cut.proofs.FrameLaws.{few-in_one, made_in_one}
use Rattle.tx_cut.proofs.cut_from.Goals as goal

pub returns-then-not-is_cut : goal.returns-then-not-is_cut
returns-then-not-is_cut c =
    let a = c.args in
    let no : (leb (length a.datagram.now) 72 && aliases a.destination a.source) ≡ false = sym c.is_cut.ensures ∙ c.if-not-is_cut.true in
    rw (cut_none a.destination a.source a.datagram.now no) record { count = omega arith; bytes = sym (put_nil (16 * a.n) a.frames.now) }

pub cut_whole-requires : goal.cut_whole-requires
cut_whole-requires c =
    let a = c.args in
    let yes : (leb (length a.datagram.now) 72 && aliases a.destination a.source) ≡ true = sym c.is_cut.ensures ∙ c.if-not-is_cut.false in
    let fits = cut_fits a.destination a.source a.datagram.now yes in
    (omega arith, few-in_one a.destination a.source a.datagram.now a.n _ (omega arith) (omega arith) (omega arith))

pub returns : goal.returns
returns c =
    let a = c.args in
    let yes : (leb (length a.datagram.now) 72 && aliases a.destination a.source) ≡ true = sym c.is_cut.ensures ∙ c.if-not-is_cut.false in
    let fits = cut_fits a.destination a.source a.datagram.now yes in
    let whole = c.cut_whole.ensures in
    let made = made_in_one a.destination a.source a.datagram.now a.n (a.destination * 4096 + a.source) a.frames.now (whole.count, whole.bytes) (omega arith) (omega arith) in
    rw (cut_all a.destination a.source a.datagram.now yes) record { count = made.0; bytes = made.1 }
