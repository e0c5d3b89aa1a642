-- Laws of the places: what a sound state is, the place of a source, a free place, and the places and the pool after a change of one place.
-- Assumes nothing.
use mathlib.Core.Path.{◌≡◌, refl, sym, ap, ◌∙◌}
use mathlib.Core.Logic.{◌≢◌}
use mathlib.Core.Bool.{Bool, true, false, not, ◌&&◌, ◌||◌}
use mathlib.Core.List.{List, [], ◌∷◌}
use Prim.Native.Nat.{ℕ, zero, suc, ◌+◌, ◌*◌, ◌≤◌, ◌<◌}
use native.Mathlib.Nat.{le_of_suc-le-suc, not-suc-le-zero}
use native.Mathlib.Omega.{arith}
use lib.Dec.{leb, eqb}
use lib.ListN.{length, take, drop, get_or, set, length-drop}
use lib.Seq.{drop-drop}
use borrow.Author.Tests.{eqb-true, eq-eqb, ne_eqb, le-leb, leb-true, not-true}
use Rattle.buffer.specs.Buffer.{put_at}
use Rattle.buffer.proofs.Choice.{clash, by-test, and_left, and_right}
use Rattle.buffer.proofs.Laws.{take-before, drop-behind, drop-put}
use Rattle.rx_place_spec.specs.declared.Place.{Place}
use Rattle.rx_place_spec.specs.Place.{free_place}
use Rattle.rx_spec.specs.Books.{Book, blank, holds, swallowing, is_unfinished}
use Rattle.rx_spec.specs.Reception.{is_for, kept_in, unfinished_in, place_of, free_in, has_place, full, sound_beside, sound}

-- ---- whose a place is

pub is_for-held : (s : ℕ) (p : Place) → is_for s p ≡ true → p.held ≡ true
unfolding is_for
is_for-held s p e = and_left p.held (eqb p.source s) e

pub is_for-source : (s : ℕ) (p : Place) → is_for s p ≡ true → p.source ≡ s
unfolding is_for
is_for-source s p e = eqb-true p.source s (and_right p.held (eqb p.source s) e)

pub is_for-free : (s : ℕ) (p : Place) → p.held ≡ false → is_for s p ≡ false
unfolding is_for
is_for-free s p e = rw e

pub is_for-self : (s : ℕ) (p : Place) → p.held ≡ true → p.source ≡ s → is_for s p ≡ true
unfolding is_for
is_for-self s p e q = rw e (eq-eqb p.source s q)

pub is_for-else : (s : ℕ) (p : Place) → p.source ≢ s → is_for s p ≡ false
unfolding is_for
is_for-else s p n = go p.held refl
  where
    go : (b : Bool) → p.held ≡ b → p.held && eqb p.source s ≡ false
    go true e = rw e (ne_eqb p.source s n)
    go false e = rw e

pub is_for-not : (s t : ℕ) (p : Place) → s ≢ t → is_for s p ≡ true → is_for t p ≡ false
is_for-not s t p n e = is_for-else t p (λ q. n (sym (is_for-source s p e) ∙ q))

-- ---- a sound state, as facts

pub record Fine (p : Place) (ps : List Place) : Type 0 where
  pub short : p.swallowing ≡ false → p.len ≤ 72
  pub small : p.source ≤ 4095
  pub alone : has_place p.source ps ≡ false

abbrev pub Good : List Place → Type 0
Good [] = Unit {0}
Good (p ∷ ps) = (p.held ≡ true → Fine p ps) × Good ps

pub beside_fine : (ps : List Place) (p : Place) → sound_beside ps p ≡ true → Fine p ps
beside_fine ps p y =
    let z = and_right (p.swallowing || leb p.len 72) _ y in
    record {
      short = λ n. leb-true p.len 72 (rw n at (and_left (p.swallowing || leb p.len 72) _ y));
      small = leb-true p.source 4095 (and_left (leb p.source 4095) _ z);
      alone = not-true (has_place p.source ps) (and_right (leb p.source 4095) _ z);
    }

pub fine-beside : (ps : List Place) (p : Place) → Fine p ps → sound_beside ps p ≡ true
fine-beside ps p f =
    let short : p.swallowing || leb p.len 72 ≡ true = by-test p.swallowing (λ e. rw e) (λ e. rw (e, le-leb p.len 72 (f.short e))) in
    rw (short, le-leb p.source 4095 f.small, f.alone)

pub good-sound : (ps : List Place) → Good ps → sound ps ≡ true
good-sound [] g = refl
good-sound (p ∷ ps) g = go p.held refl (good-sound ps g.1)
  where
    go : (b : Bool) → p.held ≡ b → sound ps ≡ true → sound (p ∷ ps) ≡ true
    go true e ih = rw (e, fine-beside ps p (g.0 e), ih)
    go false e ih = rw (e, ih)

pub sound-good : (ps : List Place) → sound ps ≡ true → Good ps
sound-good [] e = tt
sound-good (p ∷ ps) e =
    let x = and_left (not p.held || sound_beside ps p) (sound ps) e in (
      λ h. beside_fine ps p (rw h at x),
      sound-good ps (and_right (not p.held || sound_beside ps p) (sound ps) e),
    )

pub good-short : (ps : List Place) (i : ℕ) → Good ps → (get_or ps i free_place).held ≡ true → (get_or ps i free_place).swallowing ≡ false → i < length ps →
    (get_or ps i free_place).len ≤ 72
good-short [] i g u n h = absurd (omega arith)
good-short (q ∷ ps) zero g u n h = (g.0 u).short n
good-short (q ∷ ps) (suc i) g u n h = good-short ps i g.1 u n (omega arith)

-- ---- what a held place has

pub kept-bytes : (p : Place) (pool : List ℕ) → p.swallowing ≡ false → kept_in p pool ≡ holds (take p.len pool)
unfolding kept_in
kept-bytes p pool e = rw e

pub kept-swallowing : (p : Place) (pool : List ℕ) → p.swallowing ≡ true → kept_in p pool ≡ swallowing
unfolding kept_in
kept-swallowing p pool e = rw e

kept-unfinished : (p : Place) (pool : List ℕ) → is_unfinished (kept_in p pool) ≡ true
kept-unfinished p pool = by-test p.swallowing (λ e. rw (kept-swallowing p pool e)) (λ e. rw (kept-bytes p pool e))

-- it depends on the bytes of the datagram alone
kept_same : (p : Place) (xs ys : List ℕ) → (p.swallowing ≡ false → take p.len xs ≡ take p.len ys) → kept_in p xs ≡ kept_in p ys
kept_same p xs ys h =
    by-test p.swallowing
    (λ e. kept-swallowing p xs e ∙ sym (kept-swallowing p ys e))
    (λ e. kept-bytes p xs e ∙ ap holds (h e) ∙ sym (kept-bytes p ys e))

-- the place by what it has
pub holds-not-swallowing : (p : Place) (pool b : List ℕ) → kept_in p pool ≡ holds b → p.swallowing ≡ false
holds-not-swallowing p pool b e =
    by-test p.swallowing (λ q. absurd (let x : swallowing ≡ holds b = sym (kept-swallowing p pool q) ∙ e in cc)) (λ q. q)

pub swallowing-is : (p : Place) (pool : List ℕ) → kept_in p pool ≡ swallowing → p.swallowing ≡ true
swallowing-is p pool e =
    by-test p.swallowing (λ q. q)
    (λ q. absurd (let x : holds (take p.len pool) ≡ swallowing = sym (kept-bytes p pool q) ∙ e in cc))

-- ---- which sources have an unfinished datagram, from the places alone

pub unfinished-is : (s : ℕ) (ps : List Place) (pool : List ℕ) → is_unfinished (unfinished_in ps pool s) ≡ has_place s ps
unfinished-is s [] pool = refl
unfinished-is s (p ∷ ps) pool = go (is_for s p) refl (unfinished-is s ps (drop 72 pool))
  where
    go : (b : Bool) → is_for s p ≡ b → is_unfinished (unfinished_in ps (drop 72 pool) s) ≡ has_place s ps → is_unfinished (unfinished_in (p ∷ ps) pool s) ≡ has_place s (p ∷ ps)
    go true e ih = rw (e, kept-unfinished p pool)
    go false e ih = rw e ih

not-unfinished : (b : Book) → is_unfinished b ≡ false → b ≡ blank
not-unfinished blank e = refl
not-unfinished (holds b) e = clash e
not-unfinished swallowing e = clash e

pub blank_of : (s : ℕ) (ps : List Place) (pool : List ℕ) → has_place s ps ≡ false → unfinished_in ps pool s ≡ blank
blank_of s ps pool e = not-unfinished (unfinished_in ps pool s) (unfinished-is s ps pool ∙ e)

pub blank_none : (s : ℕ) (ps : List Place) (pool : List ℕ) → unfinished_in ps pool s ≡ blank → has_place s ps ≡ false
blank_none s ps pool e = sym (unfinished-is s ps pool) ∙ ap is_unfinished e

pub some-place : (s : ℕ) (ps : List Place) (pool : List ℕ) (b : Book) → unfinished_in ps pool s ≡ b → is_unfinished b ≡ true → has_place s ps ≡ true
some-place s ps pool b e u = sym (unfinished-is s ps pool) ∙ ap is_unfinished e ∙ u

pub none-head : (s : ℕ) (p : Place) (ps : List Place) → has_place s (p ∷ ps) ≡ false → is_for s p ≡ false
none-head s p ps e = go (is_for s p) refl
  where
    go : (b : Bool) → is_for s p ≡ b → is_for s p ≡ false
    go true q = clash (rw q at e)
    go false q = q

pub none_tail : (s : ℕ) (p : Place) (ps : List Place) → has_place s (p ∷ ps) ≡ false → has_place s ps ≡ false
none_tail s p ps e = rw (none-head s p ps e) at e

-- where nothing is unfinished, no place is held, and the state is sound
pub none-good : (ps : List Place) → ((s : ℕ) → has_place s ps ≡ false) → Good ps
none-good [] e = tt
none-good (p ∷ ps) e =
    (λ h. clash (rw (is_for-self p.source p h refl) at (e p.source)), none-good ps (λ s. none_tail s p ps (e s)))

pub none-take : (s : ℕ) (i : ℕ) (ps : List Place) → has_place s ps ≡ false → has_place s (take i ps) ≡ false
none-take s zero ps e = refl
none-take s (suc i) [] e = refl
none-take s (suc i) (p ∷ ps) e = rw (none-head s p ps e) (none-take s i ps (none_tail s p ps e))

pub none-drop : (s : ℕ) (i : ℕ) (ps : List Place) → has_place s ps ≡ false → has_place s (drop i ps) ≡ false
none-drop s zero ps e = e
none-drop s (suc i) [] e = refl
none-drop s (suc i) (p ∷ ps) e = none-drop s i ps (none_tail s p ps e)

-- ---- the place of s, and a free one

pub record PlaceOf (s : ℕ) (ps : List Place) (pool : List ℕ) (i : ℕ) : Type 0 where
  pub inside : i < length ps
  pub own : is_for s (get_or ps i free_place) ≡ true
  pub first : has_place s (take i ps) ≡ false
  pub kept : unfinished_in ps pool s ≡ kept_in (get_or ps i free_place) (drop (72 * i) pool)

pub place_found : (s : ℕ) (ps : List Place) (pool : List ℕ) → has_place s ps ≡ true → PlaceOf s ps pool (place_of s ps)
place_found s [] pool e = clash (sym e)
place_found s (p ∷ ps) pool e = go (is_for s p) refl (place_found s ps (drop 72 pool))
  where
    go : (b : Bool) → is_for s p ≡ b → (has_place s ps ≡ true → PlaceOf s ps (drop 72 pool) (place_of s ps)) → PlaceOf s (p ∷ ps) pool (place_of s (p ∷ ps))
    go true q ih = rw q (record { inside = omega arith; own = q; first = refl; kept = rw q })
    go false q ih =
        let r = ih (rw q at e) in
        let m : 72 * suc (place_of s ps) ≡ 72 + 72 * place_of s ps = omega arith in
        rw q (record {
          inside = omega (arith, r.inside);
          own = r.own;
          first = rw q r.first;
          kept = rw (q, m) (r.kept ∙ rw drop-drop);
        })

pub place_out : (s : ℕ) (ps : List Place) → has_place s ps ≡ false → place_of s ps ≡ length ps
place_out s [] e = refl
place_out s (p ∷ ps) e = rw (none-head s p ps e) (ap suc (place_out s ps (none_tail s p ps e)))

-- no place behind the first is for s too
pub place-last : (s : ℕ) (ps : List Place) → Good ps → has_place s (drop (suc (place_of s ps)) ps) ≡ false
place-last s [] g = refl
place-last s (p ∷ ps) g = go (is_for s p) refl (place-last s ps g.1)
  where
    go : (b : Bool) → is_for s p ≡ b → has_place s (drop (suc (place_of s ps)) ps) ≡ false → has_place s (drop (suc (place_of s (p ∷ ps))) (p ∷ ps)) ≡ false
    go true q ih = rw q (rw (is_for-source s p q) at (g.0 (is_for-held s p q)).alone)
    go false q ih = rw q ih

pub record Free (ps : List Place) (i : ℕ) : Type 0 where
  pub inside : i < length ps
  pub free : (get_or ps i free_place).held ≡ false

pub free : (ps : List Place) → full ps ≡ false → Free ps (free_in ps)
free [] e = clash e
free (p ∷ ps) e = go p.held refl (free ps)
  where
    go : (b : Bool) → p.held ≡ b → (full ps ≡ false → Free ps (free_in ps)) → Free (p ∷ ps) (free_in (p ∷ ps))
    go true q ih = let r = ih (rw q at e) in rw q (record { inside = omega (arith, r.inside); free = r.free })
    go false q ih = rw q (record { inside = omega arith; free = refl })

pub free_out : (ps : List Place) → full ps ≡ true → free_in ps ≡ length ps
free_out [] e = refl
free_out (p ∷ ps) e = rw (and_left p.held (full ps) e) (ap suc (free_out ps (and_right p.held (full ps) e)))

-- ---- place i becomes p

none-set : (t i : ℕ) (p : Place) (ps : List Place) → has_place t ps ≡ false → is_for t p ≡ false → has_place t (set ps i p) ≡ false
none-set t i p [] e n = e
none-set t zero p (q ∷ ps) e n = rw n (none_tail t q ps e)
none-set t (suc i) p (q ∷ ps) e n = rw (none-head t q ps e) (none-set t i p ps (none_tail t q ps e) n)

-- where p is not for s, and no other place is
pub none_left : (s i : ℕ) (p : Place) (ps : List Place) → has_place s (take i ps) ≡ false → has_place s (drop (suc i) ps) ≡ false → is_for s p ≡ false →
    has_place s (set ps i p) ≡ false
none_left s i p [] a b n = refl
none_left s zero p (q ∷ ps) a b n = rw n b
none_left s (suc i) p (q ∷ ps) a b n = rw (none-head s q (take i ps) a) (none_left s i p ps (none_tail s q (take i ps) a) b n)

-- p is held, if at all, for s, and is short, if it holds a datagram
abbrev pub Fits : ℕ → Place → Type 0
Fits s p = p.held ≡ true → (p.swallowing ≡ false → p.len ≤ 72) × (p.source ≤ 4095) × (p.source ≡ s)

pub fits-else : (s t : ℕ) (p : Place) → Fits s p → s ≢ t → is_for t p ≡ false
fits-else s t p f n = go p.held refl
  where
    go : (b : Bool) → p.held ≡ b → is_for t p ≡ false
    go true e = is_for-else t p (λ q. n (sym (f e).2 ∙ q))
    go false e = is_for-free t p e

pub good-set : (s i : ℕ) (p : Place) (ps : List Place) → Good ps → has_place s (take i ps) ≡ false → has_place s (drop (suc i) ps) ≡ false → Fits s p → Good (set ps i p)
good-set s i p [] g a b f = tt
good-set s zero p (q ∷ ps) g a b f = (λ h. record { short = (f h).0; small = (f h).1; alone = rw (f h).2 b }, g.1)
good-set s (suc i) p (q ∷ ps) g a b f = (
  λ h. record {
    short = (g.0 h).short;
    small = (g.0 h).small;
    alone = none-set q.source i p ps (g.0 h).alone
        (fits-else s q.source p f (λ e. clash (sym (is_for-self s q h (sym e)) ∙ none-head s q (take i ps) a)));
  },
  good-set s i p ps g.1 (none_tail s q (take i ps) a) b f,
)

-- what t has stays, where neither the old place i nor the new one is t's
pub unfinished-else : (t i k : ℕ) (p : Place) (d : List ℕ) (ps : List Place) (pool : List ℕ) → Good ps → i < length ps → 72 * length ps ≤ length pool →
    k + length d ≤ 72 → is_for t (get_or ps i free_place) ≡ false → is_for t p ≡ false →
    unfinished_in (set ps i p) (put_at (72 * i + k) d pool) t ≡ unfinished_in ps pool t
unfinished-else t i k p d [] pool g h l f a b = refl
unfinished-else t zero k p d (q ∷ ps) pool g h l f a b =
    rw (a, b, drop-behind (72 * 0 + k) d pool (omega arith) 72 (omega arith))
unfinished-else t (suc i) k p d (q ∷ ps) pool g h l f a b =
    go (is_for t q) refl (unfinished-else t i k p d ps (drop 72 pool) g.1 (le_of_suc-le-suc h) (rw length-drop (omega arith)) f a b)
  where
    m : 72 * suc i + k ≡ 72 + (72 * i + k)
    m = omega arith

    v : 72 + (72 * i + k) ≤ length pool
    v = omega arith

    go : (c : Bool) → is_for t q ≡ c → unfinished_in (set ps i p) (put_at (72 * i + k) d (drop 72 pool)) t ≡ unfinished_in ps (drop 72 pool) t →
        unfinished_in (set (q ∷ ps) (suc i) p) (put_at (72 * suc i + k) d pool) t ≡ unfinished_in (q ∷ ps) pool t
    go true e ih =
        rw (e, m)
        (kept_same q _ pool (λ n. let u = (g.0 (is_for-held t q e)).short n in take-before (72 + (72 * i + k)) d pool v q.len (omega arith)))
    go false e ih = rw (e, m, drop-put 72 (72 * i + k) d pool v) ih

-- what s has, where the new place is the first of s
pub unfinished-own : (s i k : ℕ) (p : Place) (d : List ℕ) (ps : List Place) (pool : List ℕ) → i < length ps → 72 * length ps ≤ length pool →
    k ≤ 72 → has_place s (take i ps) ≡ false → is_for s p ≡ true →
    unfinished_in (set ps i p) (put_at (72 * i + k) d pool) s ≡ kept_in p (put_at k d (drop (72 * i) pool))
unfinished-own s i k p d [] pool h l f a b = absurd (not-suc-le-zero h)
unfinished-own s zero k p d (q ∷ ps) pool h l f a b = let z : 72 * 0 + k ≡ k = omega arith in rw (b, z)
unfinished-own s (suc i) k p d (q ∷ ps) pool h l f a b =
    let m : 72 * suc i + k ≡ 72 + (72 * i + k) = omega arith in
    let n : 72 * suc i ≡ 72 + 72 * i = omega arith in
    let v : 72 + (72 * i + k) ≤ length pool = omega (arith, h) in
    rw (none-head s q (take i ps) a, m, n, drop-put 72 (72 * i + k) d pool v, ← drop-drop (72 * i) 72 pool)
    (unfinished-own s i k p d ps (drop 72 pool) (le_of_suc-le-suc h) (rw length-drop (omega arith)) f (none_tail s q (take i ps) a) b)
