-- Document 01, "Commands": the lock memory.
use Rattle.std.specs.Prelude.{ℕ, Bool, true, cond, ◌&&◌, List, [], ◌∷◌, eqb, length}

-- A zero ID, and a lock memory that nobody holds.
unfoldable pub all_zero : List ℕ → Bool
all_zero [] = true
all_zero (b ∷ more) = eqb b 0 && all_zero more

-- "A zero ID releases it, whoever sends; a non-zero ID is stored only over zero."
unfoldable pub lock_after : List ℕ → List ℕ → List ℕ
lock_after held id = cond (all_zero id) id (cond (all_zero held) id held)

-- "0x88, eight bytes", two of them the command's: an ID has six. One of any other length changes nothing.
unfoldable pub test_and_set : List ℕ → List ℕ → List ℕ
test_and_set held id = cond (eqb (length id) 6) (lock_after held id) held
