-- Laws of a frame in lent bytes: its head and its eight bytes in 16 that are lent, those in the place of frame n, and where none is put.
-- Assumes nothing.
use Prim.Native.Nat.{ℕ, ◌+◌, ◌-◌, ◌*◌, ◌/◌, ◌%◌, ◌≤◌, ◌<◌}
use mathlib.Core.Path.{◌≡◌, refl, sym, ap, ◌∙◌}
use mathlib.Core.List.{List, [], ◌∷◌, ◌++◌, append-nil, append_assoc}
use native.Mathlib.Numerals.{add-one}
use native.Mathlib.Nat.{add-zero, add_assoc}
use native.Mathlib.Omega.{arith}
use lib.ListN.{length, take, drop, get_or, replicate, length-append, length-drop, length-replicate, take-append-drop, drop_of_length-le, get_or-append}
use lib.Seq.{drop-cons, get_or-append-add, take_all, drop-drop, take_at, drop_at, length-take-le}
use borrow.Author.Tests.{le-leb, lt-leb}
use borrow.Rule.Slice.PartMut.{put_mid}
use Rattle.buffer.specs.Buffer.{put_at, placed}
use Rattle.buffer.proofs.Laws.{placed-fits, placed-not, put_one, put_two, put_length, put_behind, drop-replicate}
use Rattle.can_frame.specs.Frame.{frame_of}
use Rattle.can_frame.specs.declared.Frame.{Frame}
use Rattle.buffer.specs.LittleEndian.{least_first, whole_number}
use Rattle.buffer.proofs.LeastLaws.{whole-number}
use Rattle.can_frame_bytes.specs.Layout.{frame_with, frame_bytes, frame_in_bytes, whole_frame, FrameAgain, frame_placed}

-- a frame lies in 16 bytes
pub frame-length : (header : ℕ) (xs : List ℕ) → length xs ≤ 8 → length (frame_bytes (frame_of header xs)) ≡ 16
unfolding frame_bytes frame_of
frame-length header xs h = simp (length-append, length-replicate) (omega arith)

-- ---- the head of a frame and its eight bytes, put into 16

abbrev head : ℕ → ℕ → List ℕ
head header len = least_first header ++ least_first len

-- eight of a list, one by one
pub eight-from : (at : ℕ) (xs : List ℕ) → at + 8 ≤ length xs → take 8 (drop at xs)
    ≡ get_or xs at 0 ∷ get_or xs (at + 1) 0 ∷ get_or xs (at + 2) 0 ∷ get_or xs (at + 3) 0 ∷ get_or xs (at + 4) 0 ∷ get_or xs (at + 5) 0 ∷ get_or xs (at + 6) 0
    ∷ get_or xs (at + 7) 0 ∷ []
eight-from at xs h =
    let next : (k : ℕ) → k < 8 → drop (at + k) xs ≡ get_or xs (at + k) 0 ∷ drop (at + (k + 1)) xs =
    λ k below. drop-cons xs (at + k) 0 (omega arith) ∙ rw (← add-one (at + k), add_assoc) in
    let first : drop at xs ≡ get_or xs at 0 ∷ drop (at + 1) xs = simp add-zero at (next 0 (omega arith)) in
    rw (first, next 1 (omega arith), next 2 (omega arith), next 3 (omega arith), next 4 (omega arith), next 5 (omega arith), next 6 (omega arith), next 7 (omega arith))

-- eight bytes, and zeros behind fewer
abbrev padded : List ℕ → List ℕ
padded xs = xs ++ replicate (8 - length xs) 0

-- four of a list, one by one
four-from : (at : ℕ) (xs : List ℕ) → at + 4 ≤ length xs →
    get_or xs at 0 ∷ get_or xs (at + 1) 0 ∷ get_or xs (at + 2) 0 ∷ get_or xs (at + 3) 0 ∷ [] ≡ take 4 (drop at xs)
four-from at xs h =
    let next : (k : ℕ) → k < 4 → drop (at + k) xs ≡ get_or xs (at + k) 0 ∷ drop (at + (k + 1)) xs =
    λ k below. drop-cons xs (at + k) 0 (omega arith) ∙ rw (← add-one (at + k), add_assoc) in
    let first : drop at xs ≡ get_or xs at 0 ∷ drop (at + 1) xs = simp add-zero at (next 0 (omega arith)) in
    rw (first, next 1 (omega arith), next 2 (omega arith), next 3 (omega arith))

module _ (xs buffer : List ℕ) (size : length buffer ≡ 16) where
  -- eight bytes are put into theirs, four and four
  pub data-eight : {half after : List ℕ} → length xs ≡ 8
      → half ≡ placed 8 (get_or xs 0 0 ∷ get_or xs 1 0 ∷ get_or xs 2 0 ∷ get_or xs 3 0 ∷ []) buffer
      → after ≡ placed 12 (get_or xs 4 0 ∷ get_or xs 5 0 ∷ get_or xs 6 0 ∷ get_or xs 7 0 ∷ []) half
      → after ≡ placed 8 (padded xs) buffer
  data-eight {half} h p q =
      let first : List ℕ = take 4 xs in
      let others : List ℕ = drop 4 xs in
      let z : 8 - length xs ≡ 0 = omega arith in
      let few : length first ≡ 4 = length-take-le 4 xs (omega arith) in
      let more : length others ≡ 4 = rw length-drop (omega arith) in
      let room : length (put_at 8 first buffer) ≡ 16 = put_length 8 first buffer (omega arith) (omega arith) ∙ size in
      let behind : 12 ≡ 8 + length first = omega arith in
      let here : half ≡ put_at 8 first buffer =
      p ∙ ap (λ l. placed 8 l buffer) (four-from 0 xs (omega arith)) ∙ placed-fits 8 first buffer (omega arith) in
      q
      ∙ ap (λ l. placed 12 l half) (four-from 4 xs (omega arith) ∙ take_all 4 others (omega arith))
      ∙ ap (placed 12 others) here
      ∙ placed-fits 12 others (put_at 8 first buffer) (omega arith)
      ∙ ap (λ n. put_at n others (put_at 8 first buffer)) behind
      ∙ put_behind 8 first others buffer (omega arith)
      ∙ rw (z, append-nil, placed-fits 8 xs buffer (omega arith)) (ap (λ l. put_at 8 l buffer) (take-append-drop 4 xs))

  -- zeros, and up to eight bytes over their front
  pub data-few : {zeros after : List ℕ} → zeros ≡ placed 8 (replicate 8 0) buffer → length xs ≤ 8 → after ≡ placed 8 xs zeros → after ≡ placed 8 (padded xs) buffer
  unfolding put_at
  data-few {zeros} {after} q h r =
      let t : length (take 8 buffer) ≡ 8 = length-take-le 8 buffer (omega arith) in
      let l : length (padded xs) ≡ 8 = simp (length-append, length-replicate) (omega arith) in
      let none : drop 16 buffer ≡ [] = drop_of_length-le buffer {i = 16} (omega arith) in
      let z : zeros ≡ take 8 buffer ++ replicate 8 0 = q ∙ placed-fits 8 (replicate 8 0) buffer (omega arith) ∙ rw (none, append-nil) in
      let room : length zeros ≡ 16 = ap length z ∙ length-append (take 8 buffer) (replicate 8 0) ∙ omega arith in
      let behind : drop (8 + length xs) (take 8 buffer ++ replicate 8 0) ≡ replicate (8 - length xs) 0
      = sym (drop-drop (length xs) 8 (take 8 buffer ++ replicate 8 0)) ∙ ap (drop (length xs)) (drop_at (take 8 buffer) (replicate 8 0) 8 t) ∙ drop-replicate {A = ℕ} 0 (length xs) 8 in
      r
      ∙ placed-fits 8 xs zeros (omega arith)
      ∙ rw (z, take_at (take 8 buffer) (replicate 8 0) 8 t, behind, placed-fits 8 (padded xs) buffer (omega arith), l, none, append-nil) (append_assoc (take 8 buffer) xs (replicate (8 - length xs) 0))

-- the head, and the eight bytes behind it
pub bytes-into : (header len : ℕ) (xs buffer : List ℕ) {front first after : List ℕ} → length buffer ≡ 16 → length xs ≡ 8 → front ≡ head header len
    → first ≡ placed 0 front buffer → after ≡ placed 8 xs first → after ≡ frame_bytes (frame_with header len xs)
unfolding frame_bytes
bytes-into header len xs buffer size h e p q =
    let all : List ℕ = head header len ++ xs in
    let m : length all ≡ 16 = length-append (head header len) xs ∙ omega arith in
    let none : drop (length all) buffer ≡ [] = drop_of_length-le buffer {i = length all} (omega arith) in
    put_two (head header len) xs buffer 8 refl (omega arith) (p ∙ ap (λ (x : List ℕ). placed 0 x buffer) e) q
    ∙ ap (λ (l : List ℕ). all ++ l) none
    ∙ append-nil all

-- the head, and the data behind it
pub frame-into : (header : ℕ) (xs buffer : List ℕ) {front first after : List ℕ} → length buffer ≡ 16 → length xs ≤ 8 → front ≡ head header (length xs)
    → first ≡ placed 0 front buffer → after ≡ placed 8 (padded xs) first → after ≡ frame_bytes (frame_of header xs)
unfolding frame_of
frame-into header xs buffer size h e p q =
    let l : length (padded xs) ≡ 8 = simp (length-append, length-replicate) (omega arith) in
    bytes-into header (length xs) (padded xs) buffer size l e p q

-- ---- frame n

module _ (n header : ℕ) (xs before : List ℕ) where
  -- too many data, and no frame n
  pub frame-wide : 8 < length xs → before ≡ frame_placed n header xs before
  unfolding frame_placed
  frame-wide h = rw (lt-leb (length xs) 8 h)

  pub frame-none : length xs ≤ 8 → length before / 16 ≤ n → before ≡ frame_placed n header xs before
  unfolding frame_placed
  frame-none h k =
      let l = frame-length header xs h in
      rw (le-leb (length xs) 8 h) (placed-not (16 * n) (frame_bytes (frame_of header xs)) before (omega arith))

  module _ (h : length xs ≤ 8) (room : 16 * (n + 1) ≤ length before) where
    -- a frame that is put
    pub frame-fits : frame_placed n header xs before ≡ put_at (16 * n) (frame_bytes (frame_of header xs)) before
    unfolding frame_placed
    frame-fits =
        let l = frame-length header xs h in
        rw (le-leb (length xs) 8 h) (placed-fits (16 * n) (frame_bytes (frame_of header xs)) before (omega arith))

    -- the 16 bytes from 16 * n on, lent and changed
    pub frame-lent : {made : List ℕ} → made ≡ frame_bytes (frame_of header xs) → put_mid (16 * n) (16 * n + 16 - 16 * n) before made ≡ frame_placed n header xs before
    unfolding put_at
    frame-lent p =
        let k : 16 * n + 16 - 16 * n ≡ 16 = omega arith in
        rw (k, p, frame-fits, drop-drop 16 (16 * n) before, frame-length header xs h, append_assoc)

-- ---- a frame and its 16 bytes

-- the frame that is made of three reads
pub frame-read : (bytes : List ℕ) (at k : ℕ) {h l : ℕ} {eight : List ℕ} → at + 16 ≤ length bytes → k ≡ 8
    → h ≡ whole_number bytes at → l ≡ whole_number bytes (at + 4) → eight ≡ take k (drop (at + 8) bytes)
    → ◌≡◌ {A = Frame} (record { header = h; len = l; bytes = eight }) (whole_frame bytes at)
unfolding frame_in_bytes
frame-read bytes at k h e p q r =
    let header = p ∙ whole-number bytes at (omega arith) in
    let len = q ∙ whole-number bytes (at + 4) (omega arith) in
    rw (le-leb (at + 16) (length bytes) h, header, len, r, e, eight-from (at + 8) bytes (omega arith)) (simp add_assoc)

-- where the 16 bytes are all there
pub frame-whole : (bytes : List ℕ) (at : ℕ) → at + 16 ≤ length bytes → whole_frame bytes at ≡ frame_in_bytes bytes at
frame-whole bytes at h = rw (le-leb (at + 16) (length bytes) h) refl

-- eight bytes put over eight
pub eight-put : (xs : List ℕ) {after : List ℕ} → length xs ≡ 8 → after ≡ placed 0 xs (replicate 8 0) → after ≡ xs
eight-put xs e q = put_one xs (replicate 8 0) (rw e (omega arith)) q ∙ rw e (append-nil xs)

-- the number of four bytes, least significant first
number-back : (x : ℕ) → x / 16777216 * 16777216 + x / 65536 % 256 * 65536 + x / 256 % 256 * 256 + x % 256 ≡ x
number-back x = omega arith

module _ (front : List ℕ) (f : Frame) (rest : List ℕ) (full : length f.bytes ≡ 8) (n : ℕ) (e : length front ≡ n) where
  abbrev all : List ℕ
  all = front ++ (frame_bytes f ++ rest)

  at_first : get_or all n 0 ≡ get_or (frame_bytes f ++ rest) 0 0
  at_first = rw (← e) (ap (λ (k : ℕ). get_or all k 0) (sym (add-zero (length front))) ∙ get_or-append-add front (frame_bytes f ++ rest) 0 0)

  at_next : (k : ℕ) → get_or all (n + k) 0 ≡ get_or (frame_bytes f ++ rest) k 0
  at_next k = rw (← e) (get_or-append-add front (frame_bytes f ++ rest) k 0)

  data-at : (k : ℕ) → k < 8 → get_or (f.bytes ++ rest) k 0 ≡ get_or f.bytes k 0
  data-at k h = get_or-append f.bytes rest 0 k (omega arith)

  same-frame : {h l : ℕ} {b : List ℕ} → h ≡ f.header → l ≡ f.len → b ≡ f.bytes → ◌≡◌ {A = Frame} (record { header = h; len = l; bytes = b }) f
  same-frame p q r = rw (p, q, r)

  pub frame_back : frame_in_bytes all n ≡ f
  unfolding frame_in_bytes frame_bytes
  frame_back =
      same-frame
      (rw (at_first, at_next 1, at_next 2, at_next 3) (number-back f.header))
      (rw (at_next 4, at_next 5, at_next 6, at_next 7) (number-back f.len))
      (rw (at_next 8, at_next 9, at_next 10, at_next 11, at_next 12, at_next 13, at_next 14, at_next 15)
      (rw (data-at 0 (omega arith), data-at 1 (omega arith), data-at 2 (omega arith), data-at 3 (omega arith), data-at 4 (omega arith), data-at 5 (omega arith), data-at 6 (omega arith), data-at 7 (omega arith)) (sym (eight-from 0 f.bytes (omega arith)) ∙ take_all 8 f.bytes (omega arith))))

pub frame-again : FrameAgain
frame-again front f rest full = frame_back front f rest full (length front) refl
