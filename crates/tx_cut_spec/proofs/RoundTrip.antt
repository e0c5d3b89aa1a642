-- Cutting and joining: the frames of a datagram, joined one after the other, finish that datagram at the last.
-- Assumes nothing.
use Prim.Native.Nat.{ℕ, suc, ◌+◌, ◌-◌, ◌≤◌, ◌<◌}
use mathlib.Core.Path.{◌≡◌, refl, sym, ap, ◌∙◌, subst}
use mathlib.Core.Logic.{◌≢◌, ◌⊎◌, inl, inr}
use mathlib.Core.Bool.{Bool, true, false, cond}
use mathlib.Core.List.{List, [], ◌∷◌, ◌++◌, map, append_assoc}
use native.Mathlib.Nat.{le_of_eq}
use native.Mathlib.Omega.{arith}
use lib.Dec.{leb, eqb}
use lib.ListN.{length, take, drop, replicate, length-append, length-drop, take-append-drop}
use lib.Seq.{length-take-le, take-append_seam}
use borrow.Author.Tests.{le-leb, leb-true, leb-false, ne_eqb, not-true}
use Rattle.buffer.specs.Buffer.{Each}
use Rattle.buffer.proofs.Choice.{clash}
use Rattle.can_frame.specs.declared.Frame.{Frame}
use Rattle.can_frame.specs.declared.Role.{Role}
use Rattle.can_frame.specs.declared.Role.TheVariants.{Single, First, Middle, Last}
use Rattle.can_frame.specs.Frame.{CanFrame, can_frame, source_of, kind_of_frame, role_of, header_of, frame_of}
use Rattle.can_frame.proofs.Laws.{source-of_header, role_of_header}
use Rattle.rx_place_spec.specs.declared.Place.{Place}
use Rattle.rx_place_spec.specs.Ticks.{age}
use Rattle.rx_spec.specs.Books.{Book, blank, holds, swallowing, Event, no_answer, finish, Entry, entry, fits, book_rule}
use Rattle.rx_spec.specs.Times.{frame_input, is_accepted}
use Rattle.rx_place_spec.specs.State.{State}
use Rattle.rx_spec.specs.Reception.{is_for, unfinished_for, full, at_tick, Joined, receive, receive_all}
use Rattle.tx_cut_spec.specs.Cutting.{single, first, middle, last, rest_frames, frames_of, cut_frames, carried, PromptAfter, Prompt, may_begin, CutJoins}
use Rattle.rx_spec.proofs.PlaceLaws.{Good, sound-good, good-sound}
use Rattle.rx_spec.proofs.StepLaws.{Sized, Step, entry_of, with_room}
use Rattle.rx_spec.proofs.DropLaws.{room_due, kept-or_room, unfinished-young, turned_tick}
use Rattle.rx_spec.proofs.InputLaws.{taken, receive-is, frame_step}
use Rattle.tx_cut_spec.proofs.CutLaws.{aliases-are, by-eights, rest-last, rest_more, rest_some, cut_is}

-- ---- a frame over the bus

carried-is : (header : ℕ) (xs : List ℕ) → carried (frame_of header xs) ≡ can_frame header xs
unfolding frame_of
carried-is header xs = ap (can_frame header) (take-append_seam xs (replicate (8 - length xs) 0))

-- ---- what the frames bring about

-- no answer to the frames before the last, and then e
abbrev quiet_until : List Frame → Event → List Event
quiet_until fs e = replicate (length fs - 1) no_answer ++ e ∷ []

quiet_more : (e : Event) (f : Frame) (fs : List Frame) → 0 < length fs → no_answer ∷ quiet_until fs e ≡ quiet_until (f ∷ fs) e
quiet_more e f [] h = absurd (omega arith)
quiet_more e f (g ∷ fs) h =
    let q : length (f ∷ g ∷ fs) - 1 ≡ suc (length (g ∷ fs) - 1) = omega arith in
    ap (λ (n : ℕ). replicate n no_answer ++ e ∷ []) (sym q)

-- no frame is left
no_more : (alias : ℕ) (st : State) (ticks : List ℕ) → receive_all alias st ticks [] ≡ []
no_more alias st [] = refl
no_more alias st (now ∷ ticks) = refl

-- a frame received, and the others behind it
received : (alias now : ℕ) (ticks : List ℕ) (st : State) (f : CanFrame) (fs : List CanFrame) → Good st.places →
    receive_all alias st (now ∷ ticks) (f ∷ fs) ≡ (receive alias now st f).event ∷ receive_all alias (receive alias now st f).state ticks fs
received alias now ticks st f fs g = rw (good-sound st.places g)

-- what is kept for s has the tick `now`
abbrev Ticked : ℕ → ℕ → State → Type 0
Ticked now s st = Each (λ (p : Place). is_for s p ≡ true → p.tick ≡ now) st.places

-- at a tick at most 3,000 later it is young
young : (s then now : ℕ) (ps : List Place) → age now then ≤ 3000 → Each (λ (p : Place). is_for s p ≡ true → p.tick ≡ then) ps →
    Each (λ (p : Place). is_for s p ≡ true → age now p.tick ≤ 3000) ps
young s then now [] h t = tt
young s then now (p ∷ ps) h t = (λ u. rw (t.0 u) h, young s then now ps h t.1)

module _ (alias s : ℕ) (ha : alias ≤ 4095) (hs : s ≤ 4095) (ne : s ≢ alias) where
  -- a frame of s that is cut for the board
  abbrev piece : ℕ → List ℕ → Frame
  piece k xs = frame_of (header_of k alias s) xs

  -- joined at the tick `now`, it does at s what the book's rule says
  joins : (k now : ℕ) (xs : List ℕ) (st : State) (b : Book) → k < 32 → length xs ≤ 8 → Good st.places → Sized st → unfinished_for (at_tick now st) s ≡ b →
      (kind_of_frame k ≡ First → b ≡ blank → full (at_tick now st).places ≡ false) → Step now (at_tick now st) s (receive alias now st (carried (piece k xs))) (book_rule (kind_of_frame k) xs b)
  joins k now xs st b hk hx g z h room =
      let r : role_of alias (header_of k alias s) (length xs) ≡ kind_of_frame k = role_of_header k alias s ha hs (length xs) hk hx ne in
      let q : source_of (header_of k alias s) ≡ s = source-of_header k alias s ha hs in
      let f : CanFrame = can_frame (header_of k alias s) xs in
      let mid : State = at_tick now st in
      let x : entry_of (full mid.places) (role_of alias (header_of k alias s) (length xs)) xs (unfinished_for mid (source_of (header_of k alias s))) ≡ book_rule (kind_of_frame k) xs b =
      ap (λ (t : ℕ). entry_of (full mid.places) (role_of alias (header_of k alias s) (length xs)) xs (unfinished_for mid t)) q
      ∙ ap (entry_of (full mid.places) (role_of alias (header_of k alias s) (length xs)) xs) h
      ∙ ap (λ (v : Role). entry_of (full mid.places) v xs b) r
      ∙ with_room (full mid.places) (kind_of_frame k) xs b room in
      let p : Step now mid s (taken alias now st (frame_input f)) (book_rule (kind_of_frame k) xs b) =
      subst (λ (t : ℕ). Step now mid t (taken alias now st (frame_input f)) (book_rule (kind_of_frame k) xs b)) q
      (subst (λ (e : Entry). Step now mid (source_of (header_of k alias s)) (taken alias now st (frame_input f)) e) x (frame_step alias now f st g z)) in
      subst (λ (j : Joined). Step now mid s j (book_rule (kind_of_frame k) xs b))
      (sym (ap (receive alias now st) (carried-is (header_of k alias s) xs) ∙ receive-is alias now st f)) p

  abbrev RestJoins : List ℕ → Type 0
  RestJoins xs =
      (st : State) (b ticks : List ℕ) (then : ℕ) → Good st.places → Sized st → unfinished_for st s ≡ holds b → Ticked then s st → length b + length xs ≤ 72
      → length ticks ≡ length (rest_frames alias s xs) → PromptAfter then ticks
      → receive_all alias st ticks (map carried (rest_frames alias s xs)) ≡ quiet_until (rest_frames alias s xs) (finish (b ++ xs))

  -- what is kept for s is not dropped at the next tick
  kept : (st : State) (b : Book) (then now : ℕ) → unfinished_for st s ≡ b → Ticked then s st → age now then ≤ 3000 → unfinished_for (at_tick now st) s ≡ b
  kept st b then now h t p = unfinished-young now s st.places st.pool (young s then now st.places p t) ∙ h

  -- a Last appends what is left, and finishes
  rest-short : (xs : List ℕ) → length xs ≤ 8 → RestJoins xs
  unfolding kind_of_frame
  rest-short xs l st b [] then g z h w t n p = absurd (omega (arith, rest_some alias s xs))
  rest-short xs l st b (now ∷ ticks) then g z h w t n p =
      let j = joins 0x1D now xs st (holds b) (omega arith) l g z (kept st (holds b) then now h w p.0) (λ e u. absurd (let x : ◌≡◌ {A = ℕ} 0 1 = cc in omega arith)) in
      let e : (book_rule Last xs (holds b)).event ≡ finish (b ++ xs) = rw (le-leb (length b + length xs) 72 t) in
      let left : State = (receive alias now st (carried (last alias s xs))).state in
      rw (rest-last alias s xs l)
      (received alias now ticks st (carried (last alias s xs)) [] g
      ∙ ap (λ (v : Event). v ∷ receive_all alias left ticks []) (j.event ∙ e) ∙ ap (λ (vs : List Event). finish (b ++ xs) ∷ vs) (no_more alias left ticks))

  -- a Middle appends 8 bytes, without an answer
  rest-long : (xs : List ℕ) → 8 < length xs → RestJoins (drop 8 xs) → RestJoins xs
  unfolding kind_of_frame
  rest-long xs l ih st b [] then g z h w t n p = absurd (omega (arith, rest_some alias s xs))
  rest-long xs l ih st b (now ∷ ticks) then g z h w t n p =
      let m : length (take 8 xs) ≡ 8 = length-take-le 8 xs (omega arith) in
      let d : length (drop 8 xs) ≡ length xs - 8 = length-drop 8 xs in
      let j = joins 0x1C now (take 8 xs) st (holds b) (omega arith) (le_of_eq m) g z (kept st (holds b) then now h w p.0) (λ e u. absurd (let x : ◌≡◌ {A = ℕ} 0 1 = cc in omega arith)) in
      let f : fits b (take 8 xs) ≡ true = le-leb (length b + length (take 8 xs)) 72 (omega arith) in
      let y : eqb (length (take 8 xs)) 0 ≡ false = ne_eqb (length (take 8 xs)) 0 (λ e. omega arith) in
      let e : (book_rule Middle (take 8 xs) (holds b)).event ≡ no_answer = rw (y, f) in
      let o : (book_rule Middle (take 8 xs) (holds b)).book ≡ holds (b ++ take 8 xs) = rw (y, f) in
      let u : b ++ take 8 xs ++ drop 8 xs ≡ b ++ xs = rw (append_assoc, take-append-drop 8 xs) in
      let rest : List Frame = rest_frames alias s (drop 8 xs) in
      let more : rest_frames alias s xs ≡ middle alias s (take 8 xs) ∷ rest = rest_more alias s xs l in
      let left : State = (receive alias now st (carried (middle alias s (take 8 xs)))).state in
      let a : is_accepted (receive alias now st (carried (middle alias s (take 8 xs)))).event ≡ true = ap is_accepted (j.event ∙ e) in
      let k : suc (length ticks) ≡ suc (length rest) = n ∙ ap length more in
      let r = ih left (b ++ take 8 xs) ticks now j.good j.sized (j.own ∙ o) (turned_tick now s _ (at_tick now st).places left.places a j.turned) (rw length-append (omega arith)) (omega arith) p.1 in
      rw more
      (received alias now ticks st (carried (middle alias s (take 8 xs))) (map carried rest) g
      ∙ ap (λ (v : Event). v ∷ receive_all alias left ticks (map carried rest)) (j.event ∙ e)
      ∙ ap (λ (vs : List Event). no_answer ∷ vs) (r ∙ ap (λ (ys : List ℕ). quiet_until rest (finish ys)) u)
      ∙ quiet_more (finish (b ++ xs)) (middle alias s (take 8 xs)) rest (rest_some alias s (drop 8 xs)))

  rest-joins : (xs : List ℕ) → RestJoins xs
  rest-joins = by-eights RestJoins rest-short rest-long

  -- ---- the datagram whole

  -- where s may begin a datagram, a Single is one by itself, and a First opens one
  first-event : (f : Bool) (b : Book) → may_begin f b ≡ true → (xs : List ℕ) → book_rule First xs b ≡ entry (holds xs) no_answer
  first-event f blank e xs = refl
  first-event f (holds b) e xs = clash (sym e)
  first-event f swallowing e xs = refl

  single-event : (f : Bool) (b : Book) → may_begin f b ≡ true → (xs : List ℕ) → (book_rule Single xs b).event ≡ finish xs
  single-event f blank e xs = refl
  single-event f (holds b) e xs = clash (sym e)
  single-event f swallowing e xs = refl

  free_place_lem : (f : Bool) (b : Book) → may_begin f b ≡ true → b ≡ blank → f ≡ false
  free_place_lem f blank e u = not-true f e
  free_place_lem f (holds b) e u = clash (sym e)
  free_place_lem f swallowing e u = absurd (let x : ◌≡◌ {A = ℕ} 0 1 = cc in omega arith)

  module _ (xs : List ℕ) (st : State) (g : Good st.places) (z : Sized st) (h : may_begin (full st.places) (unfinished_for st s) ≡ true) (now : ℕ) where
    abbrev mid : State
    mid = at_tick now st

    -- so it is after any tick
    may_begin_lem : may_begin (full mid.places) (unfinished_for mid s) ≡ true
    may_begin_lem = go (kept-or_room now s st.places st.pool g) (unfinished_for st s) refl
      where
        go : (unfinished_for mid s ≡ unfinished_for st s) ⊎ ((unfinished_for mid s ≡ blank) × (full mid.places ≡ false)) → (b : Book) → unfinished_for st s ≡ b →
            may_begin (full mid.places) (unfinished_for mid s) ≡ true
        go (inr (none, room)) b q = rw (none, room)
        go (inl same) blank q = rw (same, q, room_due now st.places (not-true (full st.places) (rw q at h)))
        go (inl same) (holds b) q = clash (sym (rw q at h))
        go (inl same) swallowing q = rw (same, q)

    first-joins : (k : ℕ) (ys : List ℕ) → k < 32 → length ys ≤ 8 → Step now mid s (receive alias now st (carried (piece k ys))) (book_rule (kind_of_frame k) ys (unfinished_for mid s))
    first-joins k ys hk hy = joins k now ys st (unfinished_for mid s) hk hy g z refl (λ e u. free_place_lem (full mid.places) (unfinished_for mid s) may_begin_lem u)

    frames-join : length xs ≤ 72 → (ticks : List ℕ) → suc (length ticks) ≡ length (frames_of alias s xs) → PromptAfter now ticks →
        receive_all alias st (now ∷ ticks) (map carried (frames_of alias s xs)) ≡ quiet_until (frames_of alias s xs) (finish xs)
    unfolding frames_of kind_of_frame
    frames-join k ticks n p = go (leb (length xs) 8) refl
      where
        go : (t : Bool) → leb (length xs) 8 ≡ t → receive_all alias st (now ∷ ticks) (map carried (frames_of alias s xs)) ≡ quiet_until (frames_of alias s xs) (finish xs)
        go true q =
            let j = first-joins 0x1A xs (omega arith) (leb-true (length xs) 8 q) in
            let e = j.event ∙ single-event (full mid.places) (unfinished_for mid s) may_begin_lem xs in
            let left : State = (receive alias now st (carried (single alias s xs))).state in
            rw q
            (received alias now ticks st (carried (single alias s xs)) [] g ∙ ap (λ (v : Event). v ∷ receive_all alias left ticks []) e
            ∙ ap (λ (vs : List Event). finish xs ∷ vs) (no_more alias left ticks))
        go false q =
            let l : 8 < length xs = omega (arith, leb-false (length xs) 8 q) in
            let m : length (take 8 xs) ≡ 8 = length-take-le 8 xs (omega arith) in
            let d : length (drop 8 xs) ≡ length xs - 8 = length-drop 8 xs in
            let j = first-joins 0x1B (take 8 xs) (omega arith) (le_of_eq m) in
            let x = first-event (full mid.places) (unfinished_for mid s) may_begin_lem (take 8 xs) in
            let e : (receive alias now st (carried (first alias s (take 8 xs)))).event ≡ no_answer = j.event ∙ ap (λ (y : Entry). y.event) x in
            let rest : List Frame = rest_frames alias s (drop 8 xs) in
            let left : State = (receive alias now st (carried (first alias s (take 8 xs)))).state in
            let a : is_accepted (receive alias now st (carried (first alias s (take 8 xs)))).event ≡ true = ap is_accepted e in
            let i : suc (length ticks) ≡ suc (length rest) = rw q at n in
            let r = rest-joins (drop 8 xs) left (take 8 xs) ticks now j.good j.sized (j.own ∙ ap (λ (y : Entry). y.book) x)
            (turned_tick now s _ mid.places left.places a j.turned) (omega arith) (omega arith) p in
            rw q
            (received alias now ticks st (carried (first alias s (take 8 xs))) (map carried rest) g
            ∙ ap (λ (v : Event). v ∷ receive_all alias left ticks (map carried rest)) e
            ∙ ap (λ (vs : List Event). no_answer ∷ vs) (r ∙ ap (λ (ys : List ℕ). quiet_until rest (finish ys)) (take-append-drop 8 xs))
            ∙ quiet_more (finish xs) (first alias s (take 8 xs)) rest (rest_some alias s (drop 8 xs)))

-- a datagram has a frame
some-frame : (alias s : ℕ) (xs : List ℕ) → 0 < length (frames_of alias s xs)
unfolding frames_of
some-frame alias s xs = go (leb (length xs) 8)
  where
    go : (t : Bool) → 0 < length (cond t (single alias s xs ∷ []) (first alias s (take 8 xs) ∷ rest_frames alias s (drop 8 xs)))
    go true = omega arith
    go false = omega arith

pub cut_joins : CutJoins
cut_joins alias s xs ticks st k ha hs ne eight bytes ok may n p = go ticks (rw c at n) p
  where
    c : cut_frames xs alias s ≡ frames_of alias s xs
    c = cut_is alias s xs k (aliases-are alias s ha hs)

    go : (ticks : List ℕ) → length ticks ≡ length (frames_of alias s xs) → Prompt ticks →
        receive_all alias st ticks (map carried (cut_frames xs alias s)) ≡ replicate (length (cut_frames xs alias s) - 1) no_answer ++ finish xs ∷ []
    go [] n p = absurd (omega (arith, some-frame alias s xs))
    go (now ∷ ticks) n p = rw c (frames-join alias s ha hs ne xs st (sound-good st.places ok) (record { eight = eight; bytes = bytes }) may now k ticks n p)
