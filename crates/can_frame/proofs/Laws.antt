-- Laws of the header: what a frame that is not ignored has, and a header that is put together and taken apart again.
-- Assumes nothing.
use Prim.Native.Nat.{ℕ, ◌/◌, ◌^◌, ◌≤◌, ◌<◌}
use mathlib.Core.Path.{◌≡◌, refl}
use mathlib.Core.Logic.{◌≢◌}
use mathlib.Core.Bool.{Bool, true, false}
use native.Mathlib.Nat.{mod-lt}
use native.Mathlib.Omega.{arith}
use lib.Dec.{leb, lit<}
use borrow.Author.Tests.{leb-true, le-leb, lt-ltb, eq-eqb, ne_eqb}
use Rattle.can_frame.specs.declared.Role.TheVariants.{Ignored}
use Rattle.can_frame.specs.Frame.{source_of, destination_of, kind_of_frame, addressed, role_of, header_of}

-- a frame that is not ignored is short, and a source has 12 bits
pub role_short : (alias header n : ℕ) → (role_of alias header n ≡ Ignored → ⊥) → n ≤ 8
unfolding role_of addressed
role_short alias header n e = go (leb n 8) refl
  where
    go : (b : Bool) → leb n 8 ≡ b → n ≤ 8
    go true q = leb-true n 8 q
    go false q = absurd (e (rw q))

pub source-small : (header : ℕ) → source_of header ≤ 4095
source-small header = omega (arith, mod-lt header {m = 4096} (lit< tt))

-- the parts of a header
module _ (k d s : ℕ) (hd : d ≤ 4095) (hs : s ≤ 4095) where
  pub source-of_header : source_of (header_of k d s) ≡ s
  source-of_header = omega arith

  pub destination_of_header : destination_of (header_of k d s) ≡ d
  destination_of_header = omega arith

  pub kind-of_header : header_of k d s / 2 ^ 24 ≡ k
  kind-of_header = omega arith

  -- a short frame to the board from another node is what its kind says
  pub role_of_header : (n : ℕ) → k < 32 → n ≤ 8 → s ≢ d → role_of d (header_of k d s) n ≡ kind_of_frame k
  unfolding role_of addressed
  role_of_header n hk hn ne =
      let h : header_of k d s < 2 ^ 29 = omega arith in
      rw (le-leb n 8 hn, lt-ltb (header_of k d s) (2 ^ 29) h, eq-eqb (destination_of (header_of k d s)) d destination_of_header, source-of_header, ne_eqb s d ne, kind-of_header)
