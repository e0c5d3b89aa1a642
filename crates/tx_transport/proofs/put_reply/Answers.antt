-- `tx_transport::put_reply` meets its contract.
-- Assumes nothing.
use mathlib.Core.Path.{◌≡◌, refl, sym, ◌∙◌}
use mathlib.Core.Bool.{true, false}
use mathlib.Core.List.{append-nil}
use native.Mathlib.Omega.{arith}
use Prim.Native.Nat.{ℕ, ◌+◌}
use Rattle.buffer.proofs.Laws.{put_first}
use Rattle.can_frame.specs.Frame.{frame_of}
use Rattle.can_frame_bytes.specs.Layout.{frame_bytes}
use Rattle.can_frame_bytes.proofs.LayoutLaws.{frame-fits}
use Rattle.tx_cut_spec.specs.Cutting.{aliases}
use Rattle.tx_transport.proofs.put_reply.Goals as goal

pub returns-then-not-are_aliases : goal.returns-then-not-are_aliases
returns-then-not-are_aliases c =
    let a = c.args in
    let e : aliases a.board a.tool ≡ false = sym c.are_aliases.ensures ∙ c.if-not-are_aliases.true in
    rw e record { count = refl; bytes = refl }

pub returns : goal.returns
returns c =
    let a = c.args in
    let e : aliases a.board a.tool ≡ true = sym c.are_aliases.ensures ∙ c.if-not-are_aliases.false in
    let h : ℕ = a.top + a.board in
    let put = c.put_frame.ensures ∙ frame-fits 0 h a.part.now a.out.now (omega arith) (omega arith) ∙ put_first (frame_bytes (frame_of h a.part.now)) a.out.now in
    rw (e, append-nil) record { count = refl; bytes = put }
