-- A text by the place of its first zero byte.
-- Assumes nothing.
use Rattle.std.proofs.Common.{ℕ, suc, ◌+◌, ◌≤◌, ◌≡◌, true, List, length, drop, Some, None, refl, arith, eqb}
use Rattle.std.specs.List.{position_or_len, position, slice_range}
use Rattle.std.proofs.lemmas.List.Recursion.{is_position_or_len}
use Rattle.std.proofs.lemmas.Grind.{common_steps}
use lib.ListN.{drop_of_length-le}
use Rattle.tool_read_spec.specs.Finding.{first_zero, is_text}

zero-position : (bytes : List ℕ) → first_zero bytes ≡ position_or_len (λ b. eqb b 0) bytes
unfolding first_zero
zero-position = is_position_or_len first_zero (λ b. eqb b 0) refl (λ x xs. let s : 1 + first_zero xs ≡ suc (first_zero xs) = omega arith in rw s refl)

pub no_bytes : (d : List ℕ) (start : ℕ) → length d ≤ start → true ≡ is_text (drop start d)
unfolding is_text
no_bytes d start h = rw (drop_of_length-le d {i = start} h)

module _ (d : List ℕ) (start : ℕ) (bytes : List ℕ) where
  pub text-by-position : (i : ℕ) → bytes ≡ slice_range d start (length d) → Some i ≡ position (λ b. eqb b 0) bytes → eqb (i + 1) (length bytes) ≡ is_text (drop start d)
  unfolding is_text
  text-by-position i r e = let q : drop start d ≡ bytes = grind (arith, common_steps) in let z = zero-position bytes in rw q (grind (arith, z))

  pub no_zero-byte : bytes ≡ slice_range d start (length d) → None ≡ position (λ b. eqb b 0) bytes → eqb (length bytes) 0 ≡ is_text (drop start d)
  unfolding is_text
  no_zero-byte r e = let q : drop start d ≡ bytes = grind (arith, common_steps) in let z = zero-position bytes in rw q (grind (arith, z))
