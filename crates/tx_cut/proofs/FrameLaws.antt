-- Laws of frames in lent bytes, one behind the other, and of two aliases in one number.
-- Assumes nothing.
use Prim.Native.Nat.{ℕ, ◌+◌, ◌*◌, ◌/◌, ◌%◌, ◌≤◌}
use mathlib.Core.Path.{◌≡◌, ap, ◌∙◌}
use mathlib.Core.List.{List, [], ◌∷◌, append-nil}
use native.Mathlib.Nat.{zero-add}
use native.Mathlib.Omega.{arith}
use lib.ListN.{length}
use Rattle.buffer.specs.Buffer.{over, put_at}
use Rattle.buffer.proofs.Laws.{put_behind, put_first}
use Rattle.can_frame.specs.declared.Frame.{Frame}
use Rattle.can_frame.specs.Frame.{frame_of}
use Rattle.tx_cut_spec.specs.Cutting.{frames_of}
use Rattle.can_frame_bytes.specs.Layout.{frame_bytes, frames_bytes, frame_placed}
use Rattle.can_frame_bytes.proofs.LayoutLaws.{frame-length, frame-fits}

-- of a number in which both aliases are found again
module _ (destination source : ℕ) (xs : List ℕ) (n both : ℕ) where
  -- its frames fit where theirs do
  pub few-in_one : both / 4096 ≡ destination → both % 4096 ≡ source → n + length (frames_of destination source xs) ≤ 10
      → n + length (frames_of (both / 4096) (both % 4096) xs) ≤ 10
  few-in_one d s h = rw (d, s) h

  -- what was made of it was made of them
  pub made_in_one : (before : List ℕ) {after : List ℕ} {r : ℕ}
      → (r ≡ n + length (frames_of (both / 4096) (both % 4096) xs)) × (after ≡ put_at (16 * n) (frames_bytes (frames_of (both / 4096) (both % 4096) xs)) before)
      → both / 4096 ≡ destination → both % 4096 ≡ source
      → (r ≡ n + length (frames_of destination source xs)) × (after ≡ put_at (16 * n) (frames_bytes (frames_of destination source xs)) before)
  made_in_one before made d s = rw (d, s) at made

module _ (n : ℕ) (fs : List Frame) (before : List ℕ) (room : 16 * (n + length fs) ≤ length before) {after : List ℕ} where
  -- the one frame of fs, put as frame n
  pub frame-ends : (k : ℕ) (xs : List ℕ) {r : ℕ} → fs ≡ frame_of k xs ∷ [] → length xs ≤ 8 → (r ≡ n + 1) × (after ≡ frame_placed n k xs before)
      → (r ≡ n + length fs) × (after ≡ put_at (16 * n) (frames_bytes fs) before)
  frame-ends k xs e l p =
      let one : length fs ≡ 1 = ap length e in
      rw e (p.0, p.1 ∙ frame-fits n k xs before l (omega arith) ∙ rw append-nil)

  -- the first of fs, and behind it the others
  pub frame-goes_on : (k : ℕ) (xs : List ℕ) (gs : List Frame) {next r : ℕ} {mid : List ℕ} → fs ≡ frame_of k xs ∷ gs → length xs ≤ 8
      → (next ≡ n + 1) × (mid ≡ frame_placed n k xs before)
      → (r ≡ next + length gs) × (after ≡ put_at (16 * next) (frames_bytes gs) mid)
      → (r ≡ n + length fs) × (after ≡ put_at (16 * n) (frames_bytes fs) before)
  frame-goes_on k xs gs e l p made =
      let some : length fs ≡ length gs + 1 = ap length e ∙ omega arith in
      let m : 16 * (n + 1) ≡ 16 * n + length (frame_bytes (frame_of k xs)) = omega (arith, frame-length k xs l) in (
        made.0 ∙ rw (p.0, e) (omega arith),
        made.1 ∙ rw (p.0, p.1, frame-fits n k xs before l (omega arith), e, m) (put_behind (16 * n) (frame_bytes (frame_of k xs)) (frames_bytes gs) before (omega arith)),
      )

-- frames put from frame 0 on lie in front
pub frames-in_front : (fs : List Frame) (before : List ℕ) {after : List ℕ} {r : ℕ} → (r ≡ 0 + length fs) × (after ≡ put_at 0 (frames_bytes fs) before)
    → (r ≡ length fs) × (after ≡ over (frames_bytes fs) before)
frames-in_front fs before made = (made.0 ∙ zero-add (length fs), made.1 ∙ put_first (frames_bytes fs) before)
