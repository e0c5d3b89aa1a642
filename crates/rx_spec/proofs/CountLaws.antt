-- Laws of the count of unfinished sources: where every place is held, eight are unfinished, so a ninth finds a free place while at most eight
-- are.
-- Assumes nothing.
use mathlib.Core.Path.{◌≡◌, refl, sym, ◌∙◌}
use mathlib.Core.Logic.{◌≢◌}
use mathlib.Core.Bool.{Bool, true, false, cond}
use mathlib.Core.List.{List, [], ◌∷◌}
use Prim.Native.Nat.{ℕ, zero, suc, ◌≤◌, ◌<◌}
use native.Mathlib.Omega.{arith}
use lib.Dec.{eqb}
use lib.ListN.{length}
use borrow.Author.Tests.{eqb-true, eqb-false, eq-eqb, ne_eqb}
use Rattle.buffer.proofs.Choice.{clash, and_left, and_right}
use Rattle.rx_place_spec.specs.declared.Place.{Place}
use Rattle.rx_spec.specs.Books.{Book, blank, is_unfinished}
use Rattle.rx_spec.specs.Reception.{unfinished_in, has_place, full}
use Rattle.rx_spec.specs.Order.{unfinished_below}
use Rattle.rx_spec.proofs.PlaceLaws.{is_for-self, is_for-else, Good, unfinished-is}

-- the books with that of s blank
unfoldable pub without : ℕ → (ℕ → Book) → ℕ → Book
without s book t = cond (eqb s t) blank (book t)

without_else : (s : ℕ) (book : ℕ → Book) (t : ℕ) → s ≢ t → without s book t ≡ book t
unfolding without
without_else s book t n = rw (ne_eqb s t n)

without_own : (s : ℕ) (book : ℕ → Book) → without s book s ≡ blank
unfolding without
without_own s book = rw (eq-eqb s s refl)

below_same : (n s : ℕ) (book : ℕ → Book) → n ≤ s → unfinished_below n (without s book) ≡ unfinished_below n book
unfolding unfinished_below
below_same zero s book h = refl
below_same (suc n) s book h = rw (without_else s book n (λ e. omega arith), below_same n s book (omega arith))

pub one_less : (n s : ℕ) (book : ℕ → Book) → s < n → is_unfinished (book s) ≡ true → unfinished_below n book ≡ suc (unfinished_below n (without s book))
unfolding unfinished_below
one_less zero s book h p = absurd (omega arith)
one_less (suc n) s book h p = go (eqb s n) refl (one_less n s book)
  where
    go : (b : Bool) → eqb s n ≡ b → (s < n → is_unfinished (book s) ≡ true → unfinished_below n book ≡ suc (unfinished_below n (without s book))) →
        unfinished_below (suc n) book ≡ suc (unfinished_below (suc n) (without s book))
    go true e ih =
        let q : s ≡ n = eqb-true s n e in
        rw (← q, p, without_own s book, below_same s s book (omega arith)) (omega arith)
    go false e ih =
        let q : s ≢ n = eqb-false s n e in
        rw (without_else s book n q) (omega (arith, ih (omega (arith, q)) p))

-- each of the held places is of another source
pub counted : (ps : List Place) (book : ℕ → Book) → Good ps → full ps ≡ true → ((t : ℕ) → has_place t ps ≡ true → is_unfinished (book t) ≡ true) →
    length ps ≤ unfinished_below 4096 book
counted [] book g f h = omega arith
counted (p ∷ ps) book g f h =
    let u : p.held ≡ true = and_left p.held (full ps) f in
    let k : has_place p.source ps ≡ false = (g.0 u).alone in
    let o : is_unfinished (book p.source) ≡ true = h p.source (rw (is_for-self p.source p u refl)) in
    let l : p.source < 4096 = omega (arith, (g.0 u).small) in
    let r : length ps ≤ unfinished_below 4096 (without p.source book) =
    counted ps (without p.source book) g.1 (and_right p.held (full ps) f)
    (λ t a. let n : p.source ≢ t = λ e. clash (sym a ∙ rw (← e) k) in
    rw (without_else p.source book t n) (h t (rw (is_for-else t p n) a))) in
    omega (arith, one_less 4096 p.source book l o)

-- a place is free for s: eight held places, and s, would be nine sources
pub not_full : (ps : List Place) (pool : List ℕ) (s : ℕ) (book : ℕ → Book) → Good ps → length ps ≡ 8 → has_place s ps ≡ false → s ≤ 4095 →
    ((t : ℕ) → s ≢ t → book t ≡ unfinished_in ps pool t) → is_unfinished (book s) ≡ true → unfinished_below 4096 book ≤ 8 → full ps ≡ false
not_full ps pool s book g l h k o u m = go (full ps) refl
  where
    go : (b : Bool) → full ps ≡ b → full ps ≡ false
    go true f =
        let r : length ps ≤ unfinished_below 4096 (without s book) =
        counted ps (without s book) g f
        (λ t a. let n : s ≢ t = λ e. clash (sym a ∙ rw (← e) h) in
        rw (without_else s book t n, o t n) (unfinished-is t ps pool ∙ a)) in
        absurd (omega (arith, one_less 4096 s book (omega arith) u))
    go false f = f
