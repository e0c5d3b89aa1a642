-- Laws of the reply about a space.
-- Assumes nothing.
use Prim.Native.Nat.{ℕ, ◌+◌}
use mathlib.Core.Path.{◌≡◌}
use mathlib.Core.List.{List, [], ◌∷◌}
use lib.ListN.{get_or}
use borrow.Author.Tests.{eq-eqb, ne_eqb}
use Rattle.buffer.specs.BigEndian.{bytes_of}
use Rattle.space_table.specs.declared.Space.{Space}
use Rattle.space_lookup.specs.declared.Found.TheVariants.{Described}
use Rattle.reply_spec.specs.ReplyForms.{reply_bytes}
use Rattle.reply_datagram.specs.Inquiry.{access_flag, information_reply}

module _ (n flag : ℕ) (s : Space) {h : List ℕ} (g : h ≡ bytes_of s.highest) (f : flag ≡ access_flag s) where
  pub information-zero : s.lowest ≡ 0 →
      0x20 ∷ 0x87 ∷ n ∷ get_or h 0 0 ∷ get_or h 1 0 ∷ get_or h 2 0 ∷ get_or h 3 0 ∷ flag ∷ [] ≡ reply_bytes (information_reply n (Described s))
  unfolding information_reply
  information-zero z = rw (eq-eqb s.lowest 0 z, g, f)

  pub information-lowest : (s.lowest ≡ 0 → ⊥) → {l : List ℕ} → l ≡ bytes_of s.lowest →
      0x20 ∷ 0x87 ∷ n ∷ get_or h 0 0 ∷ get_or h 1 0 ∷ get_or h 2 0 ∷ get_or h 3 0 ∷ (flag + 2) ∷ get_or l 0 0 ∷ get_or l 1 0 ∷ get_or l 2 0 ∷ get_or l 3 0 ∷ [] ≡ reply_bytes (information_reply n (Described s))
  unfolding information_reply
  information-lowest z e = rw (ne_eqb s.lowest 0 z, g, f, e)
