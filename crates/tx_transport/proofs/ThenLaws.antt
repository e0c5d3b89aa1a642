-- Laws of Received OK and the frames of a reply behind it.
-- Assumes nothing.
use Prim.Native.Nat.{ℕ, ◌+◌, ◌<◌}
use mathlib.Core.Path.{◌≡◌, refl, ap, sym, ◌∙◌}
use mathlib.Core.Bool.{true, false}
use mathlib.Core.List.{List, [], ◌∷◌, ◌++◌, append-nil}
use native.Mathlib.Omega.{arith}
use lib.Dec.{leb}
use lib.ListN.{length}
use Rattle.buffer.specs.BigEndian.{two_bytes}
use Rattle.buffer.specs.Buffer.{over, put_at}
use Rattle.buffer.proofs.Choice.{by-test, clash}
use Rattle.buffer.proofs.Laws.{put_over}
use Rattle.can_frame.specs.declared.Frame.{Frame}
use Rattle.can_frame.specs.Frame.{frame_of}
use Rattle.can_frame_bytes.specs.Layout.{frame_bytes, frames_bytes}
use Rattle.can_frame_bytes.proofs.LayoutLaws.{frame-length}
use Rattle.tx_cut_spec.specs.Cutting.{aliases, cut_frames}
use Rattle.tx_transport.specs.Transport.{received_ok}
use Rattle.tx_cut_spec.proofs.CutLaws.{aliases-left, aliases-right, aliases-are}

-- where one alias has no room in a header, the two have none in the other order
wide_back : (a b : ℕ) → aliases a b ≡ false → aliases b a ≡ false
wide_back a b e =
    by-test (aliases b a)
    (λ q. clash (sym (aliases-are a b (aliases-right b a q) (aliases-left b a q)) ∙ e))
    (λ q. q)

cut_nothing : (d s : ℕ) (xs : List ℕ) → aliases d s ≡ false → cut_frames xs d s ≡ []
unfolding cut_frames
cut_nothing d s xs e = by-test (leb (length xs) 72) (λ q. rw (q, e)) (λ q. rw q)

module _ (board tool flags : ℕ) where
  abbrev ok_frame : Frame
  ok_frame = frame_of (0x19A28000 + board) (two_bytes tool ++ flags ∷ [])

  ok_made : aliases board tool ≡ true → received_ok board tool flags ≡ ok_frame ∷ []
  unfolding received_ok
  ok_made e = rw e

  ok_none : aliases board tool ≡ false → received_ok board tool flags ≡ []
  unfolding received_ok
  ok_none e = rw e

  module _ {made : ℕ} (count : made ≡ length (received_ok board tool flags)) where
    -- none was made because an alias is too large, and one because both fit
    pub ok_wide : made ≡ 0 → aliases board tool ≡ false
    ok_wide z =
        by-test (aliases board tool)
        (λ q. let one : length (received_ok board tool flags) ≡ 1 = ap length (ok_made q) in absurd (omega arith))
        (λ q. q)

    pub ok_fit : 0 < made → aliases board tool ≡ true
    ok_fit h =
        by-test (aliases board tool)
        (λ q. q)
        (λ q. let none : length (received_ok board tool flags) ≡ 0 = ap length (ok_none q) in absurd (omega arith))

  module _ (reply before : List ℕ) {mid : List ℕ} (bytes : mid ≡ over (frames_bytes (received_ok board tool flags)) before) where
    pub then_none : aliases board tool ≡ false
        → (0 ≡ length (received_ok board tool flags ++ cut_frames reply tool board))
        × (mid ≡ over (frames_bytes (received_ok board tool flags ++ cut_frames reply tool board)) before)
    then_none e =
        let b : mid ≡ over (frames_bytes []) before = bytes ∙ ap (λ (fs : List Frame). over (frames_bytes fs) before) (ok_none e) in
        rw (ok_none e, cut_nothing tool board reply (wide_back board tool e)) (refl, b)

    pub then_cut : aliases board tool ≡ true → {after : List ℕ} {r : ℕ}
        → (r ≡ 1 + length (cut_frames reply tool board)) × (after ≡ put_at 16 (frames_bytes (cut_frames reply tool board)) mid)
        → (r ≡ length (received_ok board tool flags ++ cut_frames reply tool board))
        × (after ≡ over (frames_bytes (received_ok board tool flags ++ cut_frames reply tool board)) before)
    then_cut e made =
        let b : mid ≡ over (frame_bytes ok_frame) before = bytes ∙ ap (λ (fs : List Frame). over (frames_bytes fs) before) (ok_made e) ∙ rw append-nil in
        let l : length (frame_bytes ok_frame) ≡ 16 = frame-length (0x19A28000 + board) (two_bytes tool ++ flags ∷ []) (omega arith) in
        rw (ok_made e) (made.0 ∙ omega arith, made.1 ∙ rw b (put_over (frame_bytes ok_frame) (frames_bytes (cut_frames reply tool board)) before 16 l))
