-- The pairs of two images.
-- Assumes nothing.
use Prim.Native.Nat.{ℕ, zero, suc, ◌-◌, ◌<◌}
use mathlib.Core.Path.{◌≡◌, refl, ap, ap₂}
use mathlib.Core.List.{List, [], ◌∷◌}
use native.Mathlib.Omega.{arith}
use lib.Bits.{bit_and}
use lib.ListN.{length, take, drop, get_or}
use Rattle.buffer.specs.Buffer.{AllBytes}
use Rattle.cmd_fields.specs.Commands.{Pair}
use Rattle.exec_store.specs.Storing.{masked}
use Rattle.mask_combine.specs.Combining.{untouched, AllProper, Effect}
use Rattle.mask_combine.proofs.PairLaws.{untouched-proper}
use Rattle.mask_combine.proofs.ListLaws.{first, rest}
use Rattle.mask_diff_spec.specs.Differences.{change_of, difference}
use Rattle.mask_diff_spec.proofs.ByteLaws.{change-does, change-proper, change-least}

pub difference-length : (old new : List ℕ) → length old ≡ length new → length (difference old new) ≡ length old
unfolding difference
difference-length [] new h = refl
difference-length (o ∷ old) [] h = absurd (omega arith)
difference-length (o ∷ old) (n ∷ new) h = ap suc (difference-length old new (omega arith))

pub difference-at : (old new : List ℕ) (i : ℕ) → length old ≡ length new → i < length old → get_or (difference old new) i untouched ≡ change_of (get_or old i 0) (get_or new i 0)
unfolding difference
difference-at [] new i h l = absurd (omega arith)
difference-at (o ∷ old) [] i h l = absurd (omega arith)
difference-at (o ∷ old) (n ∷ new) zero h l = refl
difference-at (o ∷ old) (n ∷ new) (suc i) h l = difference-at old new i (omega arith) (omega arith)

pub difference-drop : (k : ℕ) (old new : List ℕ) → length old ≡ length new → drop k (difference old new) ≡ difference (drop k old) (drop k new)
unfolding difference
difference-drop zero old new h = refl
difference-drop (suc k) [] new h = refl
difference-drop (suc k) (o ∷ old) [] h = absurd (omega arith)
difference-drop (suc k) (o ∷ old) (n ∷ new) h = difference-drop k old new (omega arith)

pub difference-take : (k : ℕ) (old new : List ℕ) → take k (difference old new) ≡ difference (take k old) (take k new)
unfolding difference
difference-take zero old new = refl
difference-take (suc k) [] new = refl
difference-take (suc k) (o ∷ old) [] = refl
difference-take (suc k) (o ∷ old) (n ∷ new) = ap (λ l. change_of o n ∷ l) (difference-take k old new)

-- ---- what they do

pub difference-does : (old new : List ℕ) → length old ≡ length new → AllBytes old → AllBytes new → masked (difference old new) old ≡ new
unfolding difference masked
difference-does [] [] h a b = refl
difference-does [] (n ∷ new) h a b = absurd (omega arith)
difference-does (o ∷ old) [] h a b = absurd (omega arith)
difference-does (o ∷ old) (n ∷ new) h a b =
    ap₂ (λ x l. x ∷ l) (change-does o n (a 0) (b 0)) (difference-does old new (omega arith) (λ i. a (suc i)) (λ i. b (suc i)))

difference-proper : (old new : List ℕ) → AllBytes old → AllBytes new → AllProper (difference old new)
unfolding difference
difference-proper [] new a b i = untouched-proper
difference-proper (o ∷ old) [] a b i = untouched-proper
difference-proper (o ∷ old) (n ∷ new) a b zero = change-proper o n (a 0) (b 0)
difference-proper (o ∷ old) (n ∷ new) a b (suc i) = difference-proper old new (λ j. a (suc j)) (λ j. b (suc j)) i

pub difference-effect : (old new : List ℕ) → length old ≡ length new → AllBytes old → AllBytes new → Effect (length old) (difference old new)
difference-effect old new h a b = record { size = difference-length old new h; proper = difference-proper old new a b }

pub difference-least : (old new : List ℕ) → AllBytes old → (e : List Pair) → length e ≡ length old → AllProper e → masked e old ≡ new →
    (i : ℕ) → bit_and (get_or (difference old new) i untouched).mask (255 - (get_or e i untouched).mask) ≡ 0
unfolding difference masked
difference-least [] new a e l p q i = refl
difference-least (o ∷ old) [] a e l p q i = refl
difference-least (o ∷ old) (n ∷ new) a [] l p q i = absurd (omega arith)
difference-least (o ∷ old) (n ∷ new) a (x ∷ e) l p q zero = change-least o n (p 0) (a 0) (first q)
difference-least (o ∷ old) (n ∷ new) a (x ∷ e) l p q (suc i) = difference-least old new (λ j. a (suc j)) e (omega arith) (λ j. p (suc j)) (rest q) i
