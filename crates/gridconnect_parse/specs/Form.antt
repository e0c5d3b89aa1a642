-- Document 01, "The demonstration board": the form of a line, `:X`, eight header digits, `N`, 0–16 data digits in
-- pairs, `;`.
use Rattle.std.specs.Prelude.{ℕ, ◌-◌, ◌%◌, Bool, ◌&&◌, List, leb, eqb, length, get_or}

-- The marks `:X`, `N` and `;` in their places, and a length that leaves an even number of data digits, at most 16.
unfoldable pub formed : List ℕ → Bool
formed line =
    leb 12 (length line)
    && (leb (length line) 28
    && (eqb (length line % 2) 0
    && (eqb (get_or line 0 0) 58 && (eqb (get_or line 1 0) 88 && (eqb (get_or line 10 0) 78 && eqb (get_or line (length line - 1) 0) 59)))))
