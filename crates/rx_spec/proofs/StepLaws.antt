-- A frame joined to a sound state does at its source what the book's rule says, and leaves every other source's datagram as it was.
-- Assumes nothing.
use Prim.Native.Nat.{ℕ, suc, ◌+◌, ◌*◌, ◌≤◌, ◌<◌}
use mathlib.Core.Path.{◌≡◌, refl, sym, ap, ◌∙◌, subst}
use mathlib.Core.Logic.{◌≢◌, inl, inr}
use mathlib.Core.Bool.{Bool, true, false, cond}
use mathlib.Core.List.{List, [], ◌++◌}
use native.Mathlib.Omega.{arith}
use lib.Dec.{eqb}
use lib.ListN.{length, take, drop, get_or, set, length-set, length-drop}
use lib.Seq.{length-take-le}
use borrow.Author.Tests.{leb-true}
use Rattle.buffer.specs.Buffer.{put_at}
use Rattle.buffer.proofs.Choice.{clash}
use Rattle.buffer.proofs.Laws.{put_nil, take_put, put_length}
use Rattle.can_frame.specs.declared.Role.{Role}
use Rattle.can_frame.specs.declared.Role.TheVariants.{Ignored, Single, First, Middle, Last}
use Rattle.can_frame.specs.declared.TransportRefusal.TheVariants.{OutOfOrder, TemporaryError, BufferUnavailable}
use Rattle.can_frame.specs.Frame.{CanFrame, source_of, role_of}
use Rattle.can_frame.proofs.Laws.{role_short, source-small}
use Rattle.rx_place_spec.specs.declared.Place.{Place}
use Rattle.rx_place_spec.specs.Place.{held_for, swallowing_for, free_place}
use Rattle.rx_spec.specs.Books.{Book, blank, holds, swallowing, is_unfinished, Event, ignored, no_answer, refuse, finish, Entry, entry, fits, book_rule}
use Rattle.rx_spec.specs.Times.{is_accepted}
use Rattle.rx_place_spec.specs.State.{State, state}
use Rattle.rx_spec.specs.Reception.{is_for, kept_in, unfinished_in, unfinished_for, place_of, free_in, has_place, full, stored, size_at, dropped, opened, appended, closed, swallowed, kept_after_refusal, Joined, joined, join_rule, join_sound}
use Rattle.rx_spec.proofs.TurnedLaws.{Turned, AllTurned, same-turned, set-turned}
use Rattle.rx_spec.proofs.PlaceLaws.{is_for-self, is_for-held, is_for-source, is_for-free, is_for-not, Good, good-short, kept-bytes, kept-swallowing, holds-not-swallowing, unfinished-is, blank_of, blank_none, some-place, none-take, none-drop, none_left, PlaceOf, place_found, place-last, Free, free, Fits, fits-else, good-set, unfinished-else, unfinished-own}

-- ---- one frame, at one source

pub record Sized (st : State) : Type 0 where
  pub eight : length st.places ≡ 8
  pub bytes : length st.pool ≡ 576

-- of a frame of s at the tick `now`: j is what comes of it by the state, and e by the book
pub record Step (now : ℕ) (st : State) (s : ℕ) (j : Joined) (e : Entry) : Type 0 where
  pub event : j.event ≡ e.event
  pub good : Good j.state.places
  pub sized : Sized j.state
  pub own : unfinished_in j.state.places j.state.pool s ≡ e.book
  pub else : (t : ℕ) → s ≢ t → unfinished_in j.state.places j.state.pool t ≡ unfinished_in st.places st.pool t
  pub turned : AllTurned now s (is_accepted j.event) st.places j.state.places

module _ (now : ℕ) (st : State) (s : ℕ) (g : Good st.places) (z : Sized st) where
  stays : (b : Book) (e : Event) → unfinished_in st.places st.pool s ≡ b → (is_unfinished b ≡ true → is_accepted e ≡ false) → Step now st s (joined st e) (entry b e)
  stays b e h n =
      record {
        event = refl;
        good = g;
        sized = z;
        own = h;
        else = λ t u. refl;
        turned = same-turned now s (is_accepted e) st.places (λ u. n (ap is_unfinished (sym h) ∙ unfinished-is s st.places st.pool ∙ u));
      }

-- place i, which is nobody else's, becomes p, which is not for another; d is put behind k of its bytes
module _ (now : ℕ) (ps : List Place) (pool : List ℕ) (s i k : ℕ) (p : Place) (d : List ℕ) (g : Good ps) (z : Sized (state ps pool)) (h : i < length ps)
    (a : has_place s (take i ps) ≡ false) (b : has_place s (drop (suc i) ps) ≡ false) (o : (t : ℕ) → s ≢ t → is_for t (get_or ps i free_place) ≡ false)
    (f : Fits s p) (r : k + length d ≤ 72) where
  changes : (e : Event) (c : Book) → Turned now s (is_accepted e) (get_or ps i free_place) p → unfinished_in (set ps i p) (put_at (72 * i + k) d pool) s ≡ c →
      Step now (state ps pool) s (joined (stored i p k d (state ps pool)) e) (entry c e)
  changes e c v w =
      let q : length ps ≡ 8 = z.eight in
      let m : length pool ≡ 576 = z.bytes in
      record {
        event = refl;
        good = good-set s i p ps g a b f;
        sized = record { eight = length-set ps i p ∙ q; bytes = put_length (72 * i + k) d pool (omega arith) (omega arith) ∙ m };
        own = w;
        else = λ t u. unfinished-else t i k p d ps pool g h (omega arith) r (o t u) (fits-else s t p f u);
        turned = set-turned now s (is_accepted e) i p ps a b v;
      }

  -- it becomes free
  frees : p ≡ free_place → (e : Event) → Step now (state ps pool) s (joined (stored i p k d (state ps pool)) e) (entry blank e)
  frees q e =
      changes e blank (inr (inl (ap (λ (x : Place). x.held) q)))
      (blank_of s (set ps i p) (put_at (72 * i + k) d pool) (none_left s i p ps a b (rw q (is_for-free s free_place refl))))

  -- it is held for s from now on
  takes : is_for s p ≡ true → (e : Event) (c : Book) → Turned now s (is_accepted e) (get_or ps i free_place) p → kept_in p (put_at k d (drop (72 * i) pool)) ≡ c →
      Step now (state ps pool) s (joined (stored i p k d (state ps pool)) e) (entry c e)
  takes u e c v w =
      let q : length ps ≡ 8 = z.eight in
      let m : length pool ≡ 576 = z.bytes in
      changes e c v (unfinished-own s i k p d ps pool h (omega arith) (omega arith) a u ∙ w)

-- nothing is put into the pool
module _ (now : ℕ) (ps : List Place) (pool : List ℕ) (s i : ℕ) (p : Place) (e : Event) (c : Book) where
  untouched : Step now (state ps pool) s (joined (stored i p 0 [] (state ps pool)) e) (entry c e) →
      Step now (state ps pool) s (joined (state (set ps i p) pool) e) (entry c e)
  untouched x = subst (λ (y : List ℕ). Step now (state ps pool) s (joined (state (set ps i p) y) e) (entry c e)) (put_nil (72 * i + 0) pool) x

free_place-fits : (s : ℕ) → Fits s free_place
free_place-fits s e = clash (sym e)

-- the bytes that a place gets at its start are those of its datagram
put_front : (d pool : List ℕ) → take (length d) (put_at 0 d pool) ≡ d
put_front d pool =
    let x : 0 + length d ≡ length d = omega arith in
    ap (λ (k : ℕ). take k (put_at 0 d pool)) (sym x) ∙ take_put 0 d pool (omega arith)

-- a datagram is opened in place i, which is free or that of s
module _ (now : ℕ) (ps : List Place) (pool : List ℕ) (s i : ℕ) (d : List ℕ) (g : Good ps) (z : Sized (state ps pool)) (h : i < length ps)
    (a : has_place s (take i ps) ≡ false) (b : has_place s (drop (suc i) ps) ≡ false) (o : (t : ℕ) → s ≢ t → is_for t (get_or ps i free_place) ≡ false)
    (l : length d ≤ 72) (m : s ≤ 4095) where
  opens_at : Step now (state ps pool) s (joined (opened s d now i (state ps pool)) no_answer) (entry (holds d) no_answer)
  opens_at =
      let p : Place = held_for s (length d) now in
      takes now ps pool s i 0 p d g z h a b o (λ u. (λ n. l, m, refl)) (omega arith) (is_for-self s p refl refl) no_answer (holds d) (inr (inr (refl, refl, refl)))
      (kept-bytes p (put_at 0 d (drop (72 * i) pool)) refl ∙ ap holds (put_front d (drop (72 * i) pool)))

-- ---- a source that has a place

module _ (now : ℕ) (ps : List Place) (pool : List ℕ) (s : ℕ) (g : Good ps) (z : Sized (state ps pool)) (c : Book) (e : unfinished_in ps pool s ≡ c) (u : is_unfinished c ≡ true) where
  abbrev i : ℕ
  i = place_of s ps

  at : PlaceOf s ps pool i
  at = place_found s ps pool (some-place s ps pool c e u)

  own-kept : kept_in (get_or ps i free_place) (drop (72 * i) pool) ≡ c
  own-kept = sym at.kept ∙ e

  not-else : (t : ℕ) → s ≢ t → is_for t (get_or ps i free_place) ≡ false
  not-else t n = is_for-not s t (get_or ps i free_place) n at.own

  drops : (v : Event) → Step now (state ps pool) s (joined (dropped i (state ps pool)) v) (entry blank v)
  drops v = untouched now ps pool s i free_place v blank (frees now ps pool s i 0 free_place [] g z at.inside at.first (place-last s ps g) not-else (free_place-fits s) (omega arith) refl v)

  -- what follows is swallowed
  swallows : (t : ℕ) (v : Event) → s ≤ 4095 → Turned now s (is_accepted v) (get_or ps i free_place) (swallowing_for s t) →
      Step now (state ps pool) s (joined (swallowed s t i (state ps pool)) v) (entry swallowing v)
  swallows t v m k =
      let p : Place = swallowing_for s t in
      untouched now ps pool s i p v swallowing
      (takes now ps pool s i 0 p [] g z at.inside at.first (place-last s ps g) not-else (λ u. (λ n. omega arith, m, refl)) (omega arith) (is_for-self s p refl refl) v swallowing k
      (kept-swallowing p (put_at 0 [] (drop (72 * i) pool)) refl))

  -- from a refused frame on: the tick stays
  keeps-after-refusal : (v : Event) → is_accepted v ≡ false → s ≤ 4095 → Step now (state ps pool) s (joined (kept_after_refusal s i (state ps pool)) v) (entry swallowing v)
  keeps-after-refusal v n m =
      swallows (get_or ps i free_place).tick v m
      (inl (record { held = sym (is_for-held s (get_or ps i free_place) at.own); source = sym (is_for-source s (get_or ps i free_place) at.own); tick = refl }, λ x. n))

  -- a Middle is swallowed: it is the last accepted frame
  renews : s ≤ 4095 → Step now (state ps pool) s (joined (swallowed s now i (state ps pool)) no_answer) (entry swallowing no_answer)
  renews m = swallows now no_answer m (inr (inr (refl, refl, refl)))

  -- a First opens a datagram in the place of s
  reopens : (d : List ℕ) → length d ≤ 72 → s ≤ 4095 → Step now (state ps pool) s (joined (opened s d now i (state ps pool)) no_answer) (entry (holds d) no_answer)
  reopens d l m = opens_at now ps pool s i d g z at.inside at.first (place-last s ps g) not-else l m

-- ---- a source that holds a datagram

module _ (now : ℕ) (ps : List Place) (pool : List ℕ) (s : ℕ) (g : Good ps) (z : Sized (state ps pool)) (b : List ℕ) (e : unfinished_in ps pool s ≡ holds b) where
  abbrev home : PlaceOf s ps pool (place_of s ps)
  home = at now ps pool s g z (holds b) e refl

  abbrev size : ℕ
  size = size_at (place_of s ps) ps

  datagram : (get_or ps (place_of s ps) free_place).swallowing ≡ false
  datagram = holds-not-swallowing (get_or ps (place_of s ps) free_place) (drop (72 * place_of s ps) pool) b (own-kept now ps pool s g z (holds b) e refl)

  -- the bytes of the place are those of the unfinished datagram
  bytes-are : take size (drop (72 * place_of s ps) pool) ≡ b
  bytes-are =
      let q : holds (take size (drop (72 * place_of s ps) pool)) ≡ holds b =
      sym (kept-bytes (get_or ps (place_of s ps) free_place) (drop (72 * place_of s ps) pool) datagram) ∙ own-kept now ps pool s g z (holds b) e refl in
      cc

  enough : 72 ≤ length (drop (72 * place_of s ps) pool)
  enough =
      let q : length ps ≡ 8 = z.eight in
      let m : length pool ≡ 576 = z.bytes in
      let h = home.inside in
      rw length-drop (omega arith)

  size_is : size ≡ length b
  size_is =
      let l : size ≤ 72 = good-short ps (place_of s ps) g (is_for-held s _ home.own) datagram home.inside in
      let y = enough in
      sym (length-take-le size (drop (72 * place_of s ps) pool) (omega arith)) ∙ ap length bytes-are

  closes : (d : List ℕ) (v : Event) → length b + length d ≤ 72 → Step now (state ps pool) s (joined (closed d (place_of s ps) (state ps pool)) v) (entry blank v)
  closes d v r =
      let m = size_is in
      frees now ps pool s (place_of s ps) size free_place d g z home.inside home.first (place-last s ps g) (not-else now ps pool s g z (holds b) e refl)
      (free_place-fits s) (omega arith) refl v

  appends : (d : List ℕ) → s ≤ 4095 → length b + length d ≤ 72 →
      Step now (state ps pool) s (joined (appended s d now (place_of s ps) (state ps pool)) no_answer) (entry (holds (b ++ d)) no_answer)
  appends d l r =
      let m = size_is in
      let y : size + length d ≤ 72 = omega arith in
      let p : Place = held_for s (size + length d) now in
      let x = enough in
      let pool' : List ℕ = drop (72 * place_of s ps) pool in
      takes now ps pool s (place_of s ps) size p d g z home.inside home.first (place-last s ps g) (not-else now ps pool s g z (holds b) e refl)
      (λ u. (λ n. y, l, refl)) y (is_for-self s p refl refl) no_answer (holds (b ++ d)) (inr (inr (refl, refl, refl)))
      (kept-bytes p (put_at size d pool') refl ∙ ap holds (take_put size d pool' (omega arith) ∙ ap (λ (u : List ℕ). u ++ d) bytes-are))

-- ---- a source with nothing unfinished

opens : (now : ℕ) (ps : List Place) (pool : List ℕ) (s : ℕ) (d : List ℕ) → Good ps → Sized (state ps pool) → unfinished_in ps pool s ≡ blank →
    length d ≤ 72 → s ≤ 4095 → full ps ≡ false →
    Step now (state ps pool) s (joined (opened s d now (free_in ps) (state ps pool)) no_answer) (entry (holds d) no_answer)
opens now ps pool s d g z e l m f =
    let a = blank_none s ps pool e in
    let o : Free ps (free_in ps) = free ps f in
    opens_at now ps pool s (free_in ps) d g z o.inside (none-take s (free_in ps) ps a) (none-drop s (suc (free_in ps)) ps a)
    (λ t u. is_for-free t (get_or ps (free_in ps) free_place) o.free) l m

fits_le : (b d : List ℕ) → fits b d ≡ true → length b + length d ≤ 72
fits_le b d e = leb-true (length b + length d) 72 e

-- what comes of a frame by what the state has for its source, and by whether every place is held: the book's rule but for a First that finds no
-- free place
abbrev pub entry_of : Bool → Role → List ℕ → Book → Entry
entry_of f First d blank = cond f (entry blank (refuse BufferUnavailable)) (book_rule First d blank)
entry_of f First d (holds b) = book_rule First d (holds b)
entry_of f First d swallowing = book_rule First d swallowing
entry_of f Ignored d b = book_rule Ignored d b
entry_of f Single d b = book_rule Single d b
entry_of f Middle d b = book_rule Middle d b
entry_of f Last d b = book_rule Last d b

-- the book's rule, where a First has room
pub with_room : (f : Bool) (v : Role) (d : List ℕ) (b : Book) → (v ≡ First → b ≡ blank → f ≡ false) → entry_of f v d b ≡ book_rule v d b
with_room f First d blank h = rw (h refl refl)
with_room f First d (holds b) h = refl
with_room f First d swallowing h = refl
with_room f Ignored d b h = refl
with_room f Single d b h = refl
with_room f Middle d b h = refl
with_room f Last d b h = refl

module _ (now s : ℕ) (d : List ℕ) (ps : List Place) (pool : List ℕ) (g : Good ps) (z : Sized (state ps pool)) (m : s ≤ 4095) where
  abbrev Steps : Role → Book → Type 0
  Steps v b = Step now (state ps pool) s (join_rule v s d now (state ps pool) b) (entry_of (full ps) v d b)

  short : (v : Role) → (v ≡ Ignored → ⊥) → ((v ≡ Ignored → ⊥) → length d ≤ 8) → length d ≤ 72
  short v n l = omega (arith, l n)

  step : (v : Role) (b : Book) → unfinished_in ps pool s ≡ b → ((v ≡ Ignored → ⊥) → length d ≤ 8) → Steps v b
  step Ignored b h l = stays now (state ps pool) s g z b ignored h (λ u. refl)
  step Single blank h l = stays now (state ps pool) s g z blank (finish d) h (λ u. clash (sym u))
  step Single (holds b) h l = keeps-after-refusal now ps pool s g z (holds b) h refl (refuse OutOfOrder) refl m
  step Single swallowing h l = drops now ps pool s g z swallowing h refl (finish d)
  step First blank h l = go (full ps) refl
    where
      go : (f : Bool) → full ps ≡ f → Steps First blank
      go true e = rw e (stays now (state ps pool) s g z blank (refuse BufferUnavailable) h (λ u. refl))
      go false e = rw e (opens now ps pool s d g z h (short First (λ e. cc) l) m e)
  step First (holds b) h l = keeps-after-refusal now ps pool s g z (holds b) h refl (refuse OutOfOrder) refl m
  step First swallowing h l = reopens now ps pool s g z swallowing h refl d (short First (λ e. cc) l) m
  step Middle blank h l = stays now (state ps pool) s g z blank (refuse OutOfOrder) h (λ u. refl)
  step Middle (holds b) h l = empty (eqb (length d) 0) refl
    where
      go : (t : Bool) → fits b d ≡ t → eqb (length d) 0 ≡ false → Steps Middle (holds b)
      go true e q = rw (q, e) (appends now ps pool s g z b h d m (fits_le b d e))
      go false e q = rw (q, e) (keeps-after-refusal now ps pool s g z (holds b) h refl (refuse TemporaryError) refl m)

      empty : (t : Bool) → eqb (length d) 0 ≡ t → Steps Middle (holds b)
      empty true q = rw q (keeps-after-refusal now ps pool s g z (holds b) h refl (refuse OutOfOrder) refl m)
      empty false q = go (fits b d) refl q
  step Middle swallowing h l = renews now ps pool s g z swallowing h refl m
  step Last blank h l = stays now (state ps pool) s g z blank (refuse OutOfOrder) h (λ u. refl)
  step Last (holds b) h l = go (fits b d) refl
    where
      go : (t : Bool) → fits b d ≡ t → Steps Last (holds b)
      go true e = rw e (closes now ps pool s g z b h d (finish (b ++ d)) (fits_le b d e))
      go false e = rw e (drops now ps pool s g z (holds b) h refl (refuse TemporaryError))
  step Last swallowing h l = drops now ps pool s g z swallowing h refl no_answer

-- a frame joined to a sound state in which nothing is due
pub joins : (alias now : ℕ) (f : CanFrame) (st : State) → Good st.places → Sized st →
    Step now st (source_of f.header) (join_sound (role_of alias f.header (length f.payload)) (source_of f.header) f.payload now st)
    (entry_of (full st.places) (role_of alias f.header (length f.payload)) f.payload (unfinished_for st (source_of f.header)))
unfolding join_sound
joins alias now f st g z =
    step now (source_of f.header) f.payload st.places st.pool g z (source-small f.header)
    (role_of alias f.header (length f.payload)) (unfinished_for st (source_of f.header)) refl (role_short alias f.header (length f.payload))
