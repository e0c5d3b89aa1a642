-- A quoted text as its bytes; for texts of ASCII, whose characters have one byte each.
use Rattle.std.specs.Prelude.{ℕ, List}
use Prim.Native.Char.{code}
use Prim.Native.String.{String, [], ◌∷◌}
use mathlib.Core.List as list

abbrev pub bytes_of_text : String → List ℕ
bytes_of_text [] = list.[]
bytes_of_text (c ∷ more) = list.◌∷◌ (code c) (bytes_of_text more)
