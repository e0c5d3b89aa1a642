-- The bytes of an answer stand for it.
-- Assumes nothing.
use Rattle.std.specs.Prelude.{Option, Some, None, Result, Ok, Err}
use Prim.Native.Nat.{ℕ}
use mathlib.Core.Path.{◌≡◌, refl, ap, ◌∙◌}
use mathlib.Core.List.{List}
use Rattle.buffer.specs.LittleEndian.{number_in}
use Rattle.buffer.proofs.LeastLaws.{eight-back}
use Rattle.mask_diff.specs.Numbers.{numbers_of, change_is}
use Rattle.mask_diff.specs.declared.Change.{Change}
use Rattle.mask_diff.specs.declared.DiffError.{DiffError}
use Rattle.mask_diff.specs.declared.DiffError.TheVariants.{LengthsDiffer, BufferTooShort}

change-back : (next : Result (Option Change) DiffError) → change_is (numbers_of next) ≡ next
unfolding number_in
change-back (Err LengthsDiffer) = refl
change-back (Err BufferTooShort) = refl
change-back (Ok None) = refl
change-back (Ok (Some c)) = rw (eight-back c.start, eight-back c.count)

pub change-stored : (next : Result (Option Change) DiffError) {bytes : List ℕ} → bytes ≡ numbers_of next → (bytes ≡ numbers_of next) × (change_is bytes ≡ next)
change-stored next p = (p, ap change_is p ∙ change-back next)
