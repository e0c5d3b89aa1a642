-- Laws of frames in lent bytes, printed: how long their lines are, a turn of the loop, and that frames are read as they were put.
-- Assumes nothing.
use Prim.Native.Nat.{ℕ, zero, suc, ◌+◌, ◌-◌, ◌*◌, ◌≤◌, ◌<◌}
use mathlib.Core.Path.{◌≡◌, refl, sym, ap, ◌∙◌}
use mathlib.Core.List.{List, [], ◌∷◌, ◌++◌, append_assoc}
use native.Mathlib.Numerals.{add-one}
use native.Mathlib.Nat.{add-zero}
use native.Mathlib.Omega.{arith}
use lib.Dec.{leb}
use lib.ListN.{length, take, drop, length-append, length-take}
use borrow.Author.Tests.{le-leb, lt-leb, leb-true, leb-false}
use Rattle.buffer.specs.Buffer.{over, put_at, placed}
use Rattle.buffer.specs.LittleEndian.{least_first}
use Rattle.buffer.proofs.Choice.{by-test}
use Rattle.buffer.proofs.Laws.{placed-fits, put_length, put_behind, put_nil}
use Rattle.can_frame.specs.declared.Frame.{Frame}
use Rattle.can_frame_bytes.specs.Layout.{frame_bytes, frames_bytes, frame_in_bytes}
use Rattle.can_frame_bytes.proofs.LayoutLaws.{frame_back}
use Rattle.gridconnect_print.specs.Line.{frame_text, end_of, Printed, line_of}
use Rattle.gridconnect_print.proofs.LineLaws.{no_line, line-text, line-length}
use Rattle.gridconnect_frames.specs.Printing.{frames_from, frames_text, when_room}

-- ---- how long the lines are

text-short : (f : Frame) → length (frame_text f) ≤ 29
text-short f =
    by-test (leb f.len 8)
    (λ q. let few = leb-true f.len 8 q in
    let t : length (take f.len f.bytes) ≤ 8 = rw length-take (omega arith) in
    let l = line-length f.header (take f.len f.bytes) in
    rw (← line-text f few, length-append (line_of f.header (take f.len f.bytes)) (10 ∷ [])) (omega arith))
    (λ q. rw (no_line f (leb-false f.len 8 q)) (omega arith))

pub texts_short : (fs : List Frame) → length (frames_text fs) ≤ 29 * length fs
unfolding frames_text
texts_short [] = omega arith
texts_short (f ∷ fs) =
    let s = text-short f in
    let t = texts_short fs in
    rw (length-append (frame_text f) (frames_text fs)) (omega (arith, add-one (length fs)))

frames-count : (bytes : List ℕ) (at n : ℕ) → length (frames_from bytes at n) ≡ n
unfolding frames_from
frames-count bytes at zero = refl
frames-count bytes at (suc n) = ap suc (frames-count bytes (at + 16) n)

pub some-short : (bytes : List ℕ) (at n : ℕ) → length (frames_text (frames_from bytes at n)) ≤ 29 * n
some-short bytes at n = let c = frames-count bytes at n in let t = texts_short (frames_from bytes at n) in rw c at t

-- ---- a turn of the loop

frames-next : (bytes : List ℕ) (at n : ℕ) → 0 < n → frames_from bytes at n ≡ frame_in_bytes bytes at ∷ frames_from bytes (at + 16) (n - 1)
unfolding frames_from
frames-next bytes at zero h = absurd (omega arith)
frames-next bytes at (suc n) h = let e : suc n - 1 ≡ n = omega (arith, add-one n) in rw e

pub print_none : (frames out : List ℕ) (i n : ℕ) → n ≤ i → frames_text (frames_from frames (16 * i) (n - i)) ≡ []
unfolding frames_from frames_text
print_none frames out i n h = let e : n - i ≡ 0 = omega arith in rw e

module _ (frames out : List ℕ) (i n end : ℕ) (h : i < n) (room : end + 29 * (n - i) ≤ length out) where
  abbrev text : List ℕ
  text = frame_text (frame_in_bytes frames (16 * i))

  left-next : frames_text (frames_from frames (16 * i) (n - i)) ≡ text ++ frames_text (frames_from frames (16 * (i + 1)) (n - (i + 1)))
  unfolding frames_text
  left-next =
      let a : 16 * i + 16 ≡ 16 * (i + 1) = omega arith in
      let b : n - i - 1 ≡ n - (i + 1) = omega arith in
      rw (frames-next frames (16 * i) (n - i) (omega arith), a, b)

  module _ {f : Frame} (e : f ≡ frame_in_bytes frames (16 * i)) {end' : ℕ} {out' : List ℕ} (p : Printed end (frame_text f) out end' out') where
    end-next : end' ≡ end + length text
    unfolding end_of
    end-next = let s = text-short (frame_in_bytes frames (16 * i)) in p.end ∙ rw (e, le-leb (end + length text) (length out) (omega arith))

    out-next : out' ≡ put_at end text out
    out-next = let s = text-short (frame_in_bytes frames (16 * i)) in p.out ∙ rw e (placed-fits end text out (omega arith))

    pub print_next : {target : List ℕ} {total : ℕ}
        → target ≡ put_at end (frames_text (frames_from frames (16 * i) (n - i))) out
        → total ≡ end + length (frames_text (frames_from frames (16 * i) (n - i)))
        → (length out' ≡ length out) × (end' + 29 * (n - (i + 1)) ≤ length out)
        × (target ≡ put_at end' (frames_text (frames_from frames (16 * (i + 1)) (n - (i + 1)))) out')
        × (total ≡ end' + length (frames_text (frames_from frames (16 * (i + 1)) (n - (i + 1)))))
    print_next t l =
        let s = text-short (frame_in_bytes frames (16 * i)) in
        let rest : List ℕ = frames_text (frames_from frames (16 * (i + 1)) (n - (i + 1))) in
        let m : length (text ++ rest) ≡ length text + length rest = length-append text rest in
        let k : length (frames_text (frames_from frames (16 * i) (n - i))) ≡ length (text ++ rest) = ap length left-next in
        let q = end-next in (
          ap length out-next ∙ put_length end text out (omega arith) (omega arith),
          omega arith,
          t ∙ rw (left-next, out-next, q) (sym (put_behind end text rest out (omega arith))),
          omega arith,
        )

-- ---- where there is no room, and where there is

module _ (at : ℕ) (text out : List ℕ) where
  nothing-printed : Printed at [] out at out
  unfolding end_of placed
  nothing-printed =
      record { end = by-test (leb (at + 0) (length out)) (λ q. rw (q, add-zero)) (λ q. rw q); out = by-test (leb (at + 0) (length out)) (λ q. rw q (sym (put_nil at out))) (λ q. rw q) }

  pub no_room : length out < at + 290 → Printed at (when_room at out text) out at out
  no_room h = rw (lt-leb (at + 290) (length out) h) nothing-printed

  pub with_room : at + 290 ≤ length out → length text ≤ 290 → {r : ℕ} {after : List ℕ} → (r ≡ at + length text) × (after ≡ put_at at text out)
      → Printed at (when_room at out text) out r after
  unfolding end_of
  with_room h k m =
      rw (le-leb (at + 290) (length out) h)
      (record { end = m.0 ∙ rw (le-leb (at + length text) (length out) (omega arith)); out = m.1 ∙ sym (placed-fits at text out (omega arith)) })

-- ---- frames read as they were put

frame-size : (f : Frame) → length f.bytes ≡ 8 → length (frame_bytes f) ≡ 16
unfolding frame_bytes
frame-size f full = rw (length-append (least_first f.header ++ least_first f.len) f.bytes) (omega arith)

-- each of the frames has its eight bytes
abbrev pub Full : List Frame → Type 0
Full [] = Unit {0}
Full (f ∷ fs) = (length f.bytes ≡ 8) × Full fs

frames-from : (front rest : List ℕ) (fs : List Frame) → Full fs → (n : ℕ) → length front ≡ n → frames_from (front ++ (frames_bytes fs ++ rest)) n (length fs) ≡ fs
unfolding frames_from
frames-from front rest [] full n e = refl
frames-from front rest (f ∷ fs) full n e =
    let s = frame-size f full.0 in
    let l : length (front ++ frame_bytes f) ≡ n + 16 = length-append front (frame_bytes f) ∙ omega arith in
    let a : front ++ (frame_bytes f ++ frames_bytes fs ++ rest) ≡ front ++ (frame_bytes f ++ (frames_bytes fs ++ rest)) = rw append_assoc in
    let b : front ++ (frame_bytes f ++ frames_bytes fs ++ rest) ≡ front ++ frame_bytes f ++ (frames_bytes fs ++ rest) = simp append_assoc in
    let x : frame_in_bytes (front ++ (frame_bytes f ++ frames_bytes fs ++ rest)) n ≡ f = rw a (frame_back front f (frames_bytes fs ++ rest) full.0 n e) in
    let y : frames_from (front ++ (frame_bytes f ++ frames_bytes fs ++ rest)) (n + 16) (length fs) ≡ fs
    = rw b (frames-from (front ++ frame_bytes f) rest fs full.1 (n + 16) l) in
    rw (x, y)

-- frames put in front of lent bytes are read as they were
pub frames-back : (fs : List Frame) (before : List ℕ) → Full fs → frames_from (over (frames_bytes fs) before) 0 (length fs) ≡ fs
frames-back fs before full = frames-from [] (drop (length (frames_bytes fs)) before) fs full 0 refl
