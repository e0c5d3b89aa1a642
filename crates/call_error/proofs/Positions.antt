-- What the position of a refused space says.
-- Assumes nothing.
use Prim.Native.Nat.{ℕ, zero, suc, ◌+◌, ◌≤◌, ◌<◌}
use mathlib.Core.Path.{◌≡◌, refl, sym, ap, ◌∙◌}
use mathlib.Core.Bool.{Bool, true, false, ◌||◌}
use mathlib.Core.List.{List, [], ◌∷◌, ◌++◌, append-nil, append_assoc}
use native.Mathlib.Omega.{arith}
use lib.Dec.{eqb, ltb}
use lib.ListN.{length, take, get_or, length-append, length-take}
use borrow.Author.Tests.{le-ltb}
use Rattle.buffer.proofs.Choice.{cond-true, cond-false, cond-elim, cond-not, clash, by-test}
use Rattle.space_table.specs.Table.{no_space}
use Rattle.space_table.specs.declared.Space.{Space}
use Rattle.call_error.specs.CallErrors.{refusal_of, passes, or_else, among, space_numbers, window_check, space_check, spaces_check, limits_check, description_check, Checked}
use Rattle.call_error.specs.Positions.{RefusedAt, Positioned}
use Rattle.call_error.specs.declared.CallError.{CallError}
use Rattle.call_error.specs.declared.CallError.TheVariants.{B11TooManySpaces}
use Rattle.call_error.proofs.Laws.{is-passed, bad, or_else_passed, limits_count, lowest-above, past_the_end, wrongly_writable}
use Rattle.std.specs.Prelude.{Option, Some, None, Ok, Err}

-- ---- positions

-- the position that a check brings
abbrev position_of : Checked → Option ℕ
position_of (Ok u) = None
position_of (Err error) = (refusal_of error).position

abbrev pub Unplaced : Checked → Type 0
Unplaced h = position_of h ≡ None

-- a position is one number, and none is no position
index : Option ℕ → ℕ
index None = 0
index (Some i) = i

same_index : {i j : ℕ} → Some i ≡ Some j → i ≡ j
unfolding index
same_index e = ap index e

is_at : Option ℕ → Bool
is_at None = false
is_at (Some i) = true

not-nowhere : {X : Type 0} {p : Option ℕ} {i : ℕ} → p ≡ None → p ≡ Some i → X
unfolding is_at
not-nowhere e q = clash (sym (ap is_at (sym e ∙ q)))

good-nowhere : {h : Checked} → h ≡ Ok tt → Unplaced h
good-nowhere e = ap position_of e

-- a limit has no position
limits_nowhere : (alias n f m : ℕ) → Unplaced (limits_check alias n f m)
limits_nowhere alias n f m =
    cond-elim Unplaced (ltb 16 n) (λ q. refl)
    (λ q. cond-elim Unplaced (ltb 65536 m) (λ q. refl)
    (λ q. cond-elim Unplaced (ltb 65536 f) (λ q. refl)
    (λ q. cond-elim Unplaced (eqb alias 0 || ltb 4095 alias) (λ q. refl) (λ q. refl))))

-- a space that is refused brings its position, the number of spaces before it
abbrev Placed : ℕ → Checked → Type 0
Placed p h = passes h ≡ false → position_of h ≡ Some p

good_placed : (p : ℕ) → Placed p (Ok tt)
good_placed p e = clash e

window_placed : (f m p : ℕ) (s : Space) → Placed p (window_check f m p s)
window_placed f m p s =
    cond-elim (Placed p) (lowest-above f m s) (λ q e. refl)
    (λ q. cond-elim (Placed p) (past_the_end f m s) (λ q e. refl)
    (λ q. cond-elim (Placed p) (wrongly_writable f m s) (λ q e. refl) (λ q. good_placed p)))

space-placed : (f m : ℕ) (earlier : List ℕ) (s : Space) → Placed (length earlier) (space_check f m earlier s)
space-placed f m earlier s =
    cond-elim (Placed (length earlier)) (passes (window_check f m _ s))
    (λ q. cond-elim (Placed (length earlier)) (among s.number earlier) (λ q e. refl) (λ q. good_placed (length earlier)))
    (λ q. window_placed f m _ s)

-- ---- the spaces behind those with the numbers `earlier`

-- space k of a list is refused with an error, behind `earlier` and the k before it
record Behind (f m : ℕ) (earlier : List ℕ) (l : List Space) (k : ℕ) (h : Checked) : Type 0 where
  inside : k < length l
  before : spaces_check f m earlier (take k l) ≡ Ok tt
  here : space_check f m (earlier ++ space_numbers (take k l)) (get_or l k no_space) ≡ h

module _ (f m : ℕ) where
  -- a space of a longer list
  longer : {earlier : List ℕ} {s : Space} {l : List Space} {k : ℕ} {h : Checked} → space_check f m earlier s ≡ Ok tt
      → Behind f m (earlier ++ (s.number ∷ [])) l k h → Behind f m earlier (s ∷ l) (suc k) h
  unfolding spaces_check space_numbers
  longer {earlier} {s} {l} {k} g b =
      record {
        inside = omega (arith, b.inside);
        before = rw g b.before;
        here = ap (λ (numbers : List ℕ). space_check f m numbers (get_or l k no_space)) (sym (append_assoc earlier (s.number ∷ []) (space_numbers (take k l)))) ∙ b.here;
      }

  -- the same of a shorter one
  shorter : {earlier : List ℕ} {s : Space} {l : List Space} {k : ℕ} {h : Checked} → Behind f m earlier (s ∷ l) (suc k) h
      → (space_check f m earlier s ≡ Ok tt) × Behind f m (earlier ++ (s.number ∷ [])) l k h
  unfolding spaces_check space_numbers
  shorter {earlier} {s} {l} {k} b =
      let g = or_else_passed (space_check f m earlier s) (spaces_check f m (earlier ++ (s.number ∷ [])) (take k l)) b.before in (
        g.0,
        record {
          inside = omega (arith, b.inside);
          before = g.1;
          here = ap (λ (numbers : List ℕ). space_check f m numbers (get_or l k no_space)) (append_assoc earlier (s.number ∷ []) (space_numbers (take k l))) ∙ b.here;
        },
      )

  -- an error with a position is that of such a space
  search_says : (earlier : List ℕ) (l : List Space) (i : ℕ) (h : Checked) → spaces_check f m earlier l ≡ h → position_of h ≡ Some i
      → (k : ℕ) × (i ≡ length earlier + k) × Behind f m earlier l k h
  unfolding spaces_check space_numbers
  search_says earlier [] i h e p = not-nowhere (good-nowhere (sym e)) p
  search_says earlier (s ∷ l) i h e p =
      by-test (passes (space_check f m earlier s))
      (λ q.
      let r = search_says (earlier ++ (s.number ∷ [])) l i h (sym (cond-true _ _ _ q) ∙ e) p in
      (suc r.0, omega (arith, r.1, length-append earlier (s.number ∷ [])), longer (is-passed _ q) r.2))
      (λ q.
      let first : space_check f m earlier s ≡ h = sym (cond-false _ _ _ q) ∙ e in
      let at = same_index (sym (space-placed f m earlier s q) ∙ ap position_of first ∙ p) in
      (0, omega (arith, at), record { inside = omega arith; before = refl; here = ap (λ (numbers : List ℕ). space_check f m numbers s) (append-nil earlier) ∙ first }))

  -- and such a space is found
  search_finds : (earlier : List ℕ) (l : List Space) (k : ℕ) (h : Checked) → Behind f m earlier l k h → passes h ≡ false → spaces_check f m earlier l ≡ h
  unfolding spaces_check space_numbers
  search_finds earlier [] k h b q = absurd (omega (arith, b.inside))
  search_finds earlier (s ∷ l) zero h b q =
      let first : space_check f m earlier s ≡ h = ap (λ (numbers : List ℕ). space_check f m numbers s) (sym (append-nil earlier)) ∙ b.here in
      cond-false _ _ _ (ap passes first ∙ q) ∙ first
  search_finds earlier (s ∷ l) (suc k) h b q =
      let r = shorter b in
      rw r.0 (search_finds (earlier ++ (s.number ∷ [])) l k h r.1 q)

-- ---- a description

-- what no limit refuses is not refused with another number of spaces, at most 16
limits_other : (alias n k f m : ℕ) → n ≤ 16 → limits_check alias k f m ≡ Ok tt → limits_check alias n f m ≡ Ok tt
limits_other alias n k f m h g = cond-false (ltb 16 n) (Err B11TooManySpaces) _ (le-ltb 16 n h) ∙ (cond-not (ltb 16 k) {a = Err B11TooManySpaces} g (bad refl)).1

module _ (alias f m : ℕ) (l : List Space) where
  description_says : (error : CallError) (i : ℕ) → description_check alias l f m ≡ Err error → (refusal_of error).position ≡ Some i → RefusedAt alias f m l i error
  unfolding description_check space_numbers
  description_says error i e p =
      by-test (passes (limits_check alias (length l) f m))
      (λ q.
      let g = is-passed _ q in
      let r = search_says f m [] l i (Err error) (sym (cond-true _ _ _ q) ∙ e) p in
      let few = limits_count alias (length l) f m g in
      let at : i ≡ r.0 = omega (arith, r.1) in
      let fewer : length (take r.0 l) ≤ 16 = omega (arith, few, length-take r.0 l) in
      rw at (record {
        few = few;
        inside = r.2.inside;
        before = rw (limits_other alias (length (take r.0 l)) (length l) f m fewer g) r.2.before;
        here = r.2.here;
      }))
      (λ q. not-nowhere (limits_nowhere alias (length l) f m) (ap position_of (sym (cond-false _ _ _ q) ∙ e) ∙ p))

  description_finds : (error : CallError) (i : ℕ) → RefusedAt alias f m l i error → description_check alias l f m ≡ Err error
  unfolding description_check space_numbers
  description_finds error i r =
      let g = or_else_passed _ _ r.before in
      rw (limits_other alias (length l) (length (take i l)) f m r.few g.0)
      (search_finds f m [] l i (Err error) (record { inside = r.inside; before = g.1; here = r.here }) refl)

  -- what is tested behind the description has no position of its own
  pub positioned : (other : Checked) → Unplaced other → Positioned alias f m l (or_else (description_check alias l f m) other)
  positioned other nowhere =
      record {
        says = λ error i e p. by-test (passes (description_check alias l f m))
            (λ q. not-nowhere (ap position_of (sym e ∙ cond-true _ _ _ q) ∙ nowhere) p)
            (λ q. description_says error i (sym (cond-false _ _ _ q) ∙ e) p);
        found = λ error i r.
            let e = description_finds error i r in
            cond-false _ _ _ (ap passes e) ∙ e;
      }
