-- Laws of cutting: the rule for the rest by its length, how many frames there are, and the frames of a datagram that B9 lets pass.
-- Assumes nothing.
use Prim.Native.Nat.{ℕ, ◌+◌, ◌-◌, ◌*◌, ◌≤◌, ◌<◌}
use mathlib.Core.Path.{◌≡◌, refl, ◌∙◌}
use mathlib.Core.Bool.{Bool, true, false, cond, ◌&&◌}
use mathlib.Core.List.{List, [], ◌∷◌}
use native.Mathlib.Nat.{le_of_eq}
use native.Mathlib.Omega.{arith}
use lib.Dec.{leb}
use lib.ListN.{length, take, drop, length-drop}
use lib.Seq.{take_all}
use borrow.Author.Tests.{le-leb, lt-leb, leb-true, leb-false, ne_eqb}
use Rattle.buffer.proofs.Choice.{cond-elim, and_left, and_right}
use Rattle.can_frame.specs.declared.Frame.{Frame}
use Rattle.tx_cut_spec.specs.Cutting.{single, first, middle, last, rest_frames, frames_of, aliases, b9, cut_allowed, cut_refusal_number, cut_frames, refusal_of_count, RefusedBy}

-- ---- two aliases

pub aliases-left : (a b : ℕ) → aliases a b ≡ true → a ≤ 4095
aliases-left a b e = leb-true a 4095 (and_left (leb a 4095) (leb b 4095) e)

pub aliases-right : (a b : ℕ) → aliases a b ≡ true → b ≤ 4095
aliases-right a b e = leb-true b 4095 (and_right (leb a 4095) (leb b 4095) e)

pub aliases-are : (a b : ℕ) → a ≤ 4095 → b ≤ 4095 → aliases a b ≡ true
aliases-are a b h k = rw (le-leb a 4095 h, le-leb b 4095 k)

-- ---- the rule for the rest

-- what holds of at most 8 bytes, and of more where it holds of what is left behind the first 8, holds of all
pub by-eights : (P : List ℕ → Type 0) → ((xs : List ℕ) → length xs ≤ 8 → P xs) → ((xs : List ℕ) → 8 < length xs → P (drop 8 xs) → P xs) →
    (xs : List ℕ) → P xs
by-eights P short long [] = short [] (omega arith)
by-eights P short long (a ∷ []) = short (a ∷ []) (omega arith)
by-eights P short long (a ∷ b ∷ []) = short (a ∷ b ∷ []) (omega arith)
by-eights P short long (a ∷ b ∷ c ∷ []) = short (a ∷ b ∷ c ∷ []) (omega arith)
by-eights P short long (a ∷ b ∷ c ∷ e ∷ []) = short (a ∷ b ∷ c ∷ e ∷ []) (omega arith)
by-eights P short long (a ∷ b ∷ c ∷ e ∷ f ∷ []) = short (a ∷ b ∷ c ∷ e ∷ f ∷ []) (omega arith)
by-eights P short long (a ∷ b ∷ c ∷ e ∷ f ∷ g ∷ []) = short (a ∷ b ∷ c ∷ e ∷ f ∷ g ∷ []) (omega arith)
by-eights P short long (a ∷ b ∷ c ∷ e ∷ f ∷ g ∷ h ∷ []) = short (a ∷ b ∷ c ∷ e ∷ f ∷ g ∷ h ∷ []) (omega arith)
by-eights P short long (a ∷ b ∷ c ∷ e ∷ f ∷ g ∷ h ∷ i ∷ []) = short (a ∷ b ∷ c ∷ e ∷ f ∷ g ∷ h ∷ i ∷ []) (omega arith)
by-eights P short long (a ∷ b ∷ c ∷ e ∷ f ∷ g ∷ h ∷ i ∷ j ∷ more) =
    long (a ∷ b ∷ c ∷ e ∷ f ∷ g ∷ h ∷ i ∷ j ∷ more) (omega arith) (by-eights P short long (j ∷ more))

-- the rule as one test
rest-is : (d s : ℕ) (xs : List ℕ) →
    rest_frames d s xs ≡ cond (leb (length xs) 8) (last d s xs ∷ []) (middle d s (take 8 xs) ∷ rest_frames d s (drop 8 xs))
unfolding rest_frames
rest-is d s [] = refl
rest-is d s (a ∷ []) = refl
rest-is d s (a ∷ b ∷ []) = refl
rest-is d s (a ∷ b ∷ c ∷ []) = refl
rest-is d s (a ∷ b ∷ c ∷ e ∷ []) = refl
rest-is d s (a ∷ b ∷ c ∷ e ∷ f ∷ []) = refl
rest-is d s (a ∷ b ∷ c ∷ e ∷ f ∷ g ∷ []) = refl
rest-is d s (a ∷ b ∷ c ∷ e ∷ f ∷ g ∷ h ∷ []) = refl
rest-is d s (a ∷ b ∷ c ∷ e ∷ f ∷ g ∷ h ∷ i ∷ []) = refl
rest-is d s (a ∷ b ∷ c ∷ e ∷ f ∷ g ∷ h ∷ i ∷ j ∷ more) =
    let l : 8 < length (a ∷ b ∷ c ∷ e ∷ f ∷ g ∷ h ∷ i ∷ j ∷ more) = omega arith in
    rw (lt-leb (length (a ∷ b ∷ c ∷ e ∷ f ∷ g ∷ h ∷ i ∷ j ∷ more)) 8 l)

module _ (d s : ℕ) where
  pub rest-last : (xs : List ℕ) → length xs ≤ 8 → rest_frames d s xs ≡ last d s xs ∷ []
  rest-last xs h = rest-is d s xs ∙ rw (le-leb (length xs) 8 h)

  pub rest_more : (xs : List ℕ) → 8 < length xs → rest_frames d s xs ≡ middle d s (take 8 xs) ∷ rest_frames d s (drop 8 xs)
  rest_more xs h = rest-is d s xs ∙ rw (lt-leb (length xs) 8 h)

  -- the rest makes a frame at least, and at most one for each 8 bytes begun
  pub rest_some : (xs : List ℕ) → 0 < length (rest_frames d s xs)
  rest_some =
      by-eights (λ (xs : List ℕ). 0 < length (rest_frames d s xs))
      (λ xs h. rw (rest-last xs h) (omega arith))
      (λ xs h ih. rw (rest_more xs h) (omega arith))

  rest-few : (xs : List ℕ) → 0 < length xs → length (rest_frames d s xs) * 8 ≤ length xs + 7
  rest-few =
      by-eights (λ (xs : List ℕ). 0 < length xs → length (rest_frames d s xs) * 8 ≤ length xs + 7)
      (λ xs h p. rw (rest-last xs h) (omega arith))
      (λ xs h ih p. let l = length-drop 8 xs in rw (rest_more xs h) (omega (arith, ih (omega arith))))

-- `&xs[8..]` is `take (length xs - 8) (drop 8 xs)`
pub behind-eight : (xs : List ℕ) → take (length xs - 8) (drop 8 xs) ≡ drop 8 xs
behind-eight xs = take_all (length xs - 8) (drop 8 xs) (le_of_eq (length-drop 8 xs))

module _ (d s : ℕ) (xs : List ℕ) where
  pub rest-several : 8 < length xs → rest_frames d s xs ≡ middle d s (take 8 xs) ∷ rest_frames d s (take (length xs - 8) (drop 8 xs))
  rest-several h = rw behind-eight (rest_more d s xs h)

-- ---- a datagram

module _ (d s : ℕ) (xs : List ℕ) where
  pub frames-single : length xs ≤ 8 → frames_of d s xs ≡ single d s xs ∷ []
  unfolding frames_of
  frames-single h = rw (le-leb (length xs) 8 h)

  pub frames-several : 8 < length xs → frames_of d s xs ≡ first d s (take 8 xs) ∷ rest_frames d s (take (length xs - 8) (drop 8 xs))
  unfolding frames_of
  frames-several h = rw (lt-leb (length xs) 8 h, behind-eight)

  -- at most nine frames
  pub frames-few : length xs ≤ 72 → length (frames_of d s xs) ≤ 9
  unfolding frames_of
  frames-few k = cond-elim (λ (fs : List Frame). length fs ≤ 9) (leb (length xs) 8) (λ q. omega arith)
      (λ q. let h = leb-false (length xs) 8 q in
      let l = length-drop 8 xs in
      omega (arith, rest-few d s (drop 8 xs) (omega arith)))

  -- what B9 refuses, and what it lets pass
  pub cut_none : (leb (length xs) 72 && aliases d s) ≡ false → cut_frames xs d s ≡ []
  unfolding cut_frames
  cut_none e = rw e

  pub cut_all : (leb (length xs) 72 && aliases d s) ≡ true → cut_frames xs d s ≡ frames_of d s xs
  unfolding cut_frames
  cut_all e = rw e

  pub cut_fits : (leb (length xs) 72 && aliases d s) ≡ true → (d ≤ 4095) × (s ≤ 4095) × (length (frames_of d s xs) ≤ 9)
  cut_fits e =
      let both = and_right (leb (length xs) 72) (aliases d s) e in
      (aliases-left d s both, aliases-right d s both, frames-few (leb-true (length xs) 72 (and_left (leb (length xs) 72) (aliases d s) e)))

  -- some frame is made of what B9 lets pass
  pub frames-some : 0 < length (frames_of d s xs)
  unfolding frames_of
  frames-some = cond-elim (λ (fs : List Frame). 0 < length fs) (leb (length xs) 8) (λ _. omega arith) (λ _. omega arith)

  pub refused_by_lem : {count : ℕ} → count ≡ length (cut_frames xs d s) → RefusedBy xs d s count
  unfolding cut_frames
  refused_by_lem e = rw e (go (leb (length xs) 72 && aliases d s))
    where
      go : (t : Bool) → cut_refusal_number (refusal_of_count (length (cond t (frames_of d s xs) []))) ≡ cut_refusal_number (cond t cut_allowed b9)
      go true = rw (ne_eqb (length (frames_of d s xs)) 0 (λ z. omega (arith, frames-some)))
      go false = refl

  pub cut_is : length xs ≤ 72 → aliases d s ≡ true → cut_frames xs d s ≡ frames_of d s xs
  unfolding cut_frames
  cut_is h a = rw (le-leb (length xs) 72 h, a)
