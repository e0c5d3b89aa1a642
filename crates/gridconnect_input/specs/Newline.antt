-- Document 01, "The demonstration board": a line ends with a newline. What stands before it.
use Rattle.std.specs.Prelude.{ℕ, cond, List, [], ◌∷◌, eqb}

-- The bytes before the first newline, or all.
unfoldable pub until_newline : List ℕ → List ℕ
until_newline [] = []
until_newline (b ∷ more) = cond (eqb b 10) [] (b ∷ until_newline more)
