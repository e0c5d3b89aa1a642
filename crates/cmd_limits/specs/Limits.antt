-- Document 01, "Commands": the limits of a request's count and lengths.
use Rattle.std.specs.Prelude.{ℕ, ◌%◌, Bool, ◌&&◌, leb, eqb}

-- "its top bit is ignored"
abbrev pub count_in : ℕ → ℕ
count_in byte = byte % 128

-- "the rest must be 1–64"
abbrev pub count_fits : ℕ → Bool
count_fits count = leb 1 count && leb count 64

-- "1–64 data bytes"
abbrev pub bytes_fit : ℕ → Bool
bytes_fit n = leb 1 n && leb n 64

-- "1–32 pairs (mask, data)": so many times two bytes, and no mask without its data.
abbrev pub pairs_fit : ℕ → Bool
pairs_fit n = (leb 1 n && leb n 64) && eqb (n % 2) 0
