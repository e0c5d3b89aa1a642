-- Laws of the errors of a description.
-- Assumes nothing.
use Prim.Native.Nat.{ℕ, ◌+◌, ◌≤◌}
use mathlib.Core.Path.{◌≡◌, refl, sym, ap, ◌∙◌}
use mathlib.Core.Bool.{Bool, true, false, cond, not, ◌&&◌, ◌||◌}
use mathlib.Core.List.{List, [], ◌∷◌, ◌++◌}
use lib.Dec.{eqb, ltb}
use lib.ListN.{length}
use borrow.Author.Tests.{ltb-false}
use Rattle.buffer.proofs.Choice.{cond-true, cond-false, cond-elim, cond_map, cond-not, clash, or_left}
use Rattle.space_lookup.specs.Description.{size_of, store_of, find_space}
use Rattle.space_lookup.specs.declared.Found.{Found}
use Rattle.space_lookup.specs.declared.Found.TheVariants.{Described, Empty, Unknown}
use Rattle.space_table.specs.declared.Space.{Space}
use Rattle.call_error.specs.CallErrors.{passes, or_else, window_check, space_check, spaces_check, limits_check, description_check, Checked}
use Rattle.call_error.specs.declared.CallError.{CallError}
use Rattle.call_error.specs.declared.CallError.TheVariants.{B11TooManySpaces, B12MemoryTooLarge, B2LowestAboveHighest, B3WindowPastEnd, B4MustBeReadOnly}
use Rattle.std.specs.Prelude.{Ok, Err}

-- ---- checks

pub is-passed : (h : Checked) → passes h ≡ true → h ≡ Ok tt
is-passed (Ok u) e = refl
is-passed (Err error) e = clash (sym e)

-- the first of two checks fails, and counts; or it passes, and the second counts
pub first_counts : (a b : Checked) {error : CallError} → a ≡ Err error → or_else a b ≡ Err error
first_counts a b e = rw e refl

pub second_counts : (a b : Checked) {u : Unit {0}} → a ≡ Ok u → or_else a b ≡ b
second_counts a b e = rw e refl

-- what fails does not pass
pub bad : {h : Checked} → passes h ≡ false → h ≡ Ok tt → ⊥
bad {h} e q = clash (let z : ◌≡◌ {A = Bool} true false = ap passes (sym q) ∙ e in z)

pub or_else_passed : (a b : Checked) → or_else a b ≡ Ok tt → (a ≡ Ok tt) × (b ≡ Ok tt)
or_else_passed a b e = go (passes a) refl
  where
    go : (t : Bool) → passes a ≡ t → (a ≡ Ok tt) × (b ≡ Ok tt)
    go true q = (is-passed a q, sym (cond-true (passes a) b a q) ∙ e)
    go false q = absurd (bad q (sym (cond-false (passes a) b a q) ∙ e))

-- what no limit refuses has at most 16 spaces
pub limits_count : (alias n f m : ℕ) → limits_check alias n f m ≡ Ok tt → n ≤ 16
limits_count alias n f m g = ltb-false _ _ (cond-not (ltb 16 n) g (bad refl)).0

module _ (alias : ℕ) (l : List Space) (f m : ℕ) (g : description_check alias l f m ≡ Ok tt) where
  parts : (limits_check alias (length l) f m ≡ Ok tt) × (spaces_check f m [] l ≡ Ok tt)
  unfolding description_check
  parts = or_else_passed (limits_check alias (length l) f m) (spaces_check f m [] l) g

  pub good-memory : m ≤ 65536
  good-memory =
      let few = (cond-not (ltb 16 (length l)) {a = Err B11TooManySpaces} parts.0 (bad refl)).1 in
      ltb-false _ _ (cond-not (ltb 65536 m) {a = Err B12MemoryTooLarge} few (bad refl)).0

  pub good-spaces : spaces_check f m [] l ≡ Ok tt
  good-spaces = parts.1

-- ---- a space without an error

pub record Fine (f m : ℕ) (s : Space) : Type 0 where
  pub ordered : s.lowest ≤ s.highest
  pub within : s.offset + size_of s ≤ store_of s f m
  -- what may be written lies in memory
  pub writable : s.read_only ≡ false → s.in_flash ≡ false

-- the tests of B2, B3 and B4
module _ (f m : ℕ) (s : Space) where
  abbrev pub lowest-above : Bool
  lowest-above = ltb s.highest s.lowest

  abbrev pub past_the_end : Bool
  past_the_end = ltb (store_of s f m) (s.offset + size_of s)

  abbrev pub must_be_read-only : Bool
  must_be_read-only = s.in_flash || eqb s.number 0xFF

  abbrev pub wrongly_writable : Bool
  wrongly_writable = not s.read_only && must_be_read-only

  pub window_fine : (position : ℕ) → window_check f m position s ≡ Ok tt → Fine f m s
  window_fine position g =
      let p = cond-not lowest-above g (bad refl) in
      let q = cond-not past_the_end p.1 (bad refl) in
      let w = (cond-not wrongly_writable q.1 (bad refl)).0 in
      record {
        ordered = ltb-false _ _ p.0;
        within = ltb-false _ _ q.0;
        writable = λ r. or_left s.in_flash (eqb s.number 0xFF) (sym (ap (λ (t : Bool). not t && must_be_read-only) r) ∙ w);
      }

  -- whether a space is refused does not hang on its position
  window_passes : (p : ℕ) → passes (window_check f m p s) ≡ cond lowest-above false (cond past_the_end false (cond wrongly_writable false true))
  window_passes p =
      cond_map passes lowest-above (Err (B2LowestAboveHighest p)) _
      ∙ ap (λ (g : Bool). cond lowest-above false g) (cond_map passes past_the_end (Err (B3WindowPastEnd p)) _ ∙ ap (λ (g : Bool). cond past_the_end false g) (cond_map passes wrongly_writable (Err (B4MustBeReadOnly p)) (Ok tt)))

  pub window_anywhere : (p q : ℕ) → passes (window_check f m p s) ≡ passes (window_check f m q s)
  window_anywhere p q = window_passes p ∙ sym (window_passes q)

-- what is found in a good description
abbrev pub FoundFine : ℕ → ℕ → Found → Type 0
FoundFine f m (Described s) = Fine f m s
FoundFine f m (Empty r) = Unit {0}
FoundFine f m Unknown = Unit {0}

find_fine : (f m n : ℕ) (earlier : List ℕ) (l : List Space) → spaces_check f m earlier l ≡ Ok tt → FoundFine f m (find_space l n)
unfolding find_space spaces_check
find_fine f m n earlier [] g = cond-elim (FoundFine f m) (ltb n 0xFD) (λ q. tt) (λ q. tt)
find_fine f m n earlier (s ∷ l) g =
    let k = or_else_passed (space_check f m earlier s) _ g in
    cond-elim (FoundFine f m) (eqb s.number n)
    (λ q. window_fine f m s _ (or_else_passed (window_check f m _ s) _ k.0).0)
    (λ q. find_fine f m n (earlier ++ (s.number ∷ [])) l k.1)

pub good-find : (alias : ℕ) (l : List Space) (f m n : ℕ) → description_check alias l f m ≡ Ok tt → FoundFine f m (find_space l n)
good-find alias l f m n g = find_fine f m n [] l (good-spaces alias l f m g)
