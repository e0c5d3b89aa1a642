-- Document 01, "The demonstration board": "eight header digits, `N`, 0–16 data digits in pairs, .. digits 0–9 and A–F".
-- What is read from digits.
use Rattle.std.specs.Prelude.{ℕ, ◌-◌, ◌%◌, ◌^◌, ◌≤◌, ◌<◌, ◌≡◌, Bool, cond, Option, Some, None, ◌&&◌, List, [], ◌∷◌, ◌++◌, leb, eqb, length, get_or, take, replicate}
use Rattle.hex_print.specs.Digits.{digits_of, hex_digits, all_digits, number_in}
use Rattle.hex_read.specs.declared.HexBytes.{HexBytes}

-- ---- bytes

-- The bytes that pairs of digits stand for. A digit without its pair stands for none: `paired` is asked first, and such
-- a text is refused.
unfoldable pub bytes_in : List ℕ → List ℕ
bytes_in [] = []
bytes_in (a ∷ []) = []
bytes_in (a ∷ b ∷ more) = number_in (a ∷ b ∷ []) ∷ bytes_in more

-- "0–16 data digits in pairs"
abbrev pub paired : List ℕ → Bool
paired text = leb (length text) 16 && eqb (length text % 2) 0

-- At most eight bytes: behind them stand zeros.
abbrev pub some_bytes : List ℕ → HexBytes
some_bytes bs = record { len = length bs; bytes = bs ++ replicate (8 - length bs) 0 }

-- Any other text stands for no bytes.
unfoldable pub read_of : List ℕ → Option HexBytes
read_of text = cond (paired text && all_digits text) (Some (some_bytes (bytes_in text))) None

-- Bytes that were printed are read back from their digits.
abbrev pub BytesBack : Type 0
BytesBack = (bs : List ℕ) → length bs ≤ 8 → ((i : ℕ) → get_or bs i 0 < 256) → read_of (digits_of bs) ≡ Some (some_bytes bs)

-- Digits that were read as bytes are the ones that are printed for them.
abbrev pub BytesAgain : Type 0
BytesAgain = (text : List ℕ) (read : HexBytes) → read_of text ≡ Some read → digits_of (take read.len read.bytes) ≡ text

-- ---- a number

-- "eight header digits": any other text stands for no number.
unfoldable pub read_number : List ℕ → Option ℕ
read_number text = cond (eqb (length text) 8 && all_digits text) (Some (number_in text)) None

-- C-13: "and read back as it". A number of 32 bits that was printed is read back from its eight digits.
abbrev pub NumberBack : Type 0
NumberBack = (x : ℕ) → x < 2 ^ 32 → read_number (hex_digits 8 x) ≡ Some x

-- Eight digits that were read are the ones that are printed for their number.
abbrev pub NumberAgain : Type 0
NumberAgain = (text : List ℕ) (x : ℕ) → read_number text ≡ Some x → hex_digits 8 x ≡ text
