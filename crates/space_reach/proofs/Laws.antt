-- Laws of what a read or a write reaches.
-- Assumes nothing.
use Prim.Native.Nat.{ℕ, ◌+◌, ◌-◌, ◌≤◌}
use mathlib.Core.Path.{◌≡◌, refl, sym, ◌∙◌}
use mathlib.Core.Bool.{Bool, true, false, cond, ◌&&◌}
use mathlib.Core.List.{List}
use Rattle.std.specs.Prelude.{Ok, Err}
use native.Mathlib.Omega.{arith}
use lib.Dec.{leb}
use borrow.Author.Tests.{leb-true, leb-false, le-leb, lt-leb}
use Rattle.buffer.proofs.Choice.{cond-false, cond-elim, cond-not, and_left, and_right}
use Rattle.space_lookup.specs.Description.{find_space, size_of}
use Rattle.space_table.specs.Table.{spaces_in}
use Rattle.space_table.specs.declared.Space.{Space}
use Rattle.space_lookup.specs.declared.Found.{Found}
use Rattle.space_lookup.specs.declared.Found.TheVariants.{Described, Empty, Unknown}
use Rattle.call_error.proofs.Laws.{Fine, FoundFine, good-find}
use Rattle.space_reach.specs.Reach.{ReachResult, inside, access, index_of, WritesFit}
use Rattle.space_reach.specs.declared.Failure.{Failure}
use Rattle.space_reach.specs.declared.Failure.TheVariants.{UnknownSpace, OutOfBounds, ReadOnlySpace}

pub reach_by : (s : Space) (address n : ℕ) (writes inner : Bool) → (writes && s.read_only) ≡ false → inner ≡ inside s address n →
    cond inner (Ok s) (Err OutOfBounds) ≡ access writes (Described s) address n
reach_by s address n writes inner w e = rw (w, e)

pub record Reached (writes : Bool) (found : Found) (address n : ℕ) (s : Space) : Type 0 where
  pub described : found ≡ Described s
  pub allowed : (writes && s.read_only) ≡ false
  pub low : s.lowest ≤ address
  pub high : address + n ≤ s.highest + 1

fails_not : (failure : Failure) (s : Space) → Err failure ≡ Ok s → ⊥
fails_not failure s e = let z : ◌≡◌ {A = ℕ} 0 1 = cc in omega arith

pub reached : (writes : Bool) (found : Found) (address n : ℕ) (s : Space) → access writes found address n ≡ Ok s → Reached writes found address n s
reached writes (Described t) address n s e =
    let p = cond-not (writes && t.read_only) e (fails_not ReadOnlySpace s) in
    go (inside t address n) refl p.0 p.1
  where
    go : (b : Bool) → inside t address n ≡ b → (writes && t.read_only) ≡ false → cond (inside t address n) (Ok t) (Err OutOfBounds) ≡ Ok s →
        Reached writes (Described t) address n s
    go true q r w =
        let same : Ok t ≡ Ok s = rw q at w in
        let x : t ≡ s = cc in
        rw (← x) (record {
          described = refl;
          allowed = r;
          low = leb-true t.lowest address (and_left (leb t.lowest address) _ q);
          high = leb-true (address + n) (t.highest + 1) (and_right (leb t.lowest address) _ q);
        })
    go false q r w = absurd (fails_not OutOfBounds s (rw q at w))
reached writes (Empty read_only) address n s e =
    absurd (cond-elim (λ a. a ≡ Ok s → ⊥) (writes && read_only) (λ _. fails_not ReadOnlySpace s) (λ _. fails_not OutOfBounds s) e)
reached writes Unknown address n s e = absurd (fails_not UnknownSpace s e)

-- a write that reaches a space of a good description fits into memory
fits : (f m : ℕ) (found : Found) (address n : ℕ) (s : Space) → Reached true found address n s → FoundFine f m found → index_of s address + n ≤ m
fits f m found address n s r k =
    let w : Fine f m s = rw r.described at k in
    let l : s.offset + size_of s ≤ m = rw (cond-false s.in_flash f m (w.writable r.allowed)) at w.within in
    omega (arith, l, r.low, r.high)

pub writes-fit : WritesFit
writes-fit alias spaces f m number address n s g e =
    fits f m (find_space spaces number) address n s (reached true (find_space spaces number) address n s e) (good-find alias spaces f m number g)

-- ---- what the code found, told apart

module _ (spaces : List ℕ) (writes : Bool) (number address n : ℕ) {a : ReachResult} (p : a ≡ access writes (find_space (spaces_in spaces) number) address n) where
  pub told : {b : ReachResult} → a ≡ b → access writes (find_space (spaces_in spaces) number) address n ≡ b
  told q = sym p ∙ q

  pub low_told : {s : Space} → a ≡ Ok s → s.lowest ≤ address
  low_told {s} q = (reached writes (find_space (spaces_in spaces) number) address n s (told q)).low

-- ---- the end of a space

pub leb-left : (a n e : ℕ) → a ≤ e → leb n (e - a) ≡ leb (a + n) e
leb-left a n e h = go (leb n (e - a)) refl
  where
    go : (b : Bool) → leb n (e - a) ≡ b → leb n (e - a) ≡ leb (a + n) e
    go true q = q ∙ sym (le-leb (a + n) e (omega (arith, leb-true n (e - a) q)))
    go false q = q ∙ sym (lt-leb (a + n) e (omega (arith, leb-false n (e - a) q)))
