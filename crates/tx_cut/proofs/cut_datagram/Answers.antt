-- `tx_cut::cut_datagram` meets its contract.
-- Assumes nothing.
use Rattle.tx_cut_spec.specs.Cutting.{cut_frames}
use Rattle.tx_cut_spec.proofs.CutLaws.{refused_by_lem}
use Rattle.tx_cut_spec.proofs.RoundTrip.{cut_joins}
use Rattle.tx_cut.proofs.FrameLaws.{frames-in_front}
use Rattle.tx_cut.proofs.cut_datagram.Goals as goal

pub returns : goal.returns
returns c =
    let a = c.args in
    let cut = c.cut_from.ensures in
    let made = frames-in_front (cut_frames a.datagram.now a.destination a.source) a.frames.now (cut.count, cut.bytes) in
    record { count = made.0; bytes = made.1; joins = cut_joins; refusal = refused_by_lem a.destination a.source a.datagram.now made.0 }
