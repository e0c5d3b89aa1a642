-- The first bytes of a datagram that has an address: what they say, and that a datagram begins with those that its fields
-- make.
-- Assumes nothing.
use Prim.Native.Nat.{ℕ, zero, suc, ◌+◌, ◌*◌, ◌/◌, ◌%◌, ◌≤◌, ◌<◌}
use mathlib.Core.Path.{◌≡◌, refl, sym, ap, ◌∙◌}
use mathlib.Core.List.{List, [], ◌∷◌, ◌++◌}
use native.Mathlib.Nat.{add-zero}
use native.Mathlib.Omega.{arith}
use lib.ListN.{length, get_or, drop}
use lib.Seq.{drop-cons}
use borrow.Author.Tests.{lt-leb}
use Rattle.buffer.specs.Buffer.{AllBytes}
use Rattle.buffer.specs.BigEndian.{number_of, bytes_of, two_bytes}
use Rattle.cmd_fields.specs.Commands.{low_form, form_of, form_bits, with_form, Names, head_bytes, head_length, form_in, space_of, address_of}
use Rattle.cmd_fields.specs.declared.Form.{Form}
use Rattle.cmd_fields.specs.declared.Form.TheVariants.{NoSpace, Byte6, Fd, Fe, Ff}

-- ---- numbers and their bytes

pub number-back : (x : ℕ) → number_of (x / 16777216) (x / 65536 % 256) (x / 256 % 256) (x % 256) ≡ x
number-back x = omega arith

-- a last byte taken off
module _ (q r : ℕ) (h : r < 256) where
  above : (q * 256 + r) / 256 ≡ q
  above = omega arith

  last : (q * 256 + r) % 256 ≡ r
  last = omega arith

pub bytes_back : (a b c e : ℕ) → b < 256 → c < 256 → e < 256 → bytes_of (number_of a b c e) ≡ a ∷ b ∷ c ∷ e ∷ []
bytes_back a b c e p q r =
    let x = number_of a b c e in
    let whole : x ≡ ((a * 256 + b) * 256 + c) * 256 + e = omega arith in
    let third : x / 256 ≡ (a * 256 + b) * 256 + c = rw whole (above ((a * 256 + b) * 256 + c) e r) in
    let second : x / 65536 ≡ a * 256 + b = let s : x / 65536 ≡ x / 256 / 256 = omega arith in s ∙ rw third (above (a * 256 + b) c q) in
    let first : x / 16777216 ≡ a = let s : x / 16777216 ≡ x / 65536 / 256 = omega arith in s ∙ rw second (above a b p) in
    let n : x % 256 ≡ e = rw whole (last ((a * 256 + b) * 256 + c) e r) in
    rw (first, second, third, n, last a b p, last (a * 256 + b) c q)

pub two_back : (a b : ℕ) → b < 256 → two_bytes (a * 256 + b) ≡ a ∷ b ∷ []
two_back a b h = rw (above a b h, last a b h)

-- ---- what the first bytes say

-- a command whose low two bits are zero is its own
pub base_itself : (command : ℕ) → command % 4 ≡ 0 → command / 4 * 4 ≡ command
base_itself command z = omega arith

pub record Headed (command : ℕ) (form : Form) (space address : ℕ) (rest d : List ℕ) : Type 0 where
  pub first : get_or d 0 0 ≡ 0x20
  pub second : get_or d 1 0 ≡ with_form command form
  pub named : space_of form d ≡ space
  pub addressed : address_of d ≡ address
  pub behind : drop (head_length form) d ≡ rest
  pub size : length d ≡ head_length form + length rest
  pub bits : form_bits form ≤ 3
  pub least : 6 ≤ head_length form
  pub most : head_length form ≤ 7

pub headed : (command : ℕ) (form : Form) (space address : ℕ) (rest : List ℕ) → Names form space →
    Headed command form space address rest (head_bytes command form space address ++ rest)
unfolding head_bytes
headed command NoSpace space address rest n = absurd n
headed command Byte6 space address rest n =
    record { first = refl; second = refl; named = refl; addressed = number-back address; behind = refl; size = omega arith; bits = omega arith; least = omega arith; most = omega arith }
headed command Fd space address rest n =
    record { first = refl; second = refl; named = sym n; addressed = number-back address; behind = refl; size = omega arith; bits = omega arith; least = omega arith; most = omega arith }
headed command Fe space address rest n =
    record { first = refl; second = refl; named = sym n; addressed = number-back address; behind = refl; size = omega arith; bits = omega arith; least = omega arith; most = omega arith }
headed command Ff space address rest n =
    record { first = refl; second = refl; named = sym n; addressed = number-back address; behind = refl; size = omega arith; bits = omega arith; least = omega arith; most = omega arith }

-- the low two bits say the form
pub form_back : (form : Form) (space command : ℕ) → Names form space → command < 0x80 → form_of (with_form command form) ≡ form
form_back NoSpace space command n h = absurd n
form_back Byte6 space command n h = let e : (command / 4 * 4 + 0) % 4 ≡ 0 = omega arith in rw (lt-leb 0x80 (command / 4 * 4 + 0) (omega arith), e)
form_back Fd space command n h = let e : (command / 4 * 4 + 1) % 4 ≡ 1 = omega arith in rw (lt-leb 0x80 (command / 4 * 4 + 1) (omega arith), e)
form_back Fe space command n h = let e : (command / 4 * 4 + 2) % 4 ≡ 2 = omega arith in rw (lt-leb 0x80 (command / 4 * 4 + 2) (omega arith), e)
form_back Ff space command n h = let e : (command / 4 * 4 + 3) % 4 ≡ 3 = omega arith in rw (lt-leb 0x80 (command / 4 * 4 + 3) (omega arith), e)

-- a command is its base and the low two bits
pub low_cases : (P : ℕ → Form → Type 0) (base c : ℕ) → base % 4 ≡ 0 → base + 3 < 0x80 → base ≤ c → c ≤ base + 3 →
    P base Byte6 → P (base + 1) Fd → P (base + 2) Fe → P (base + 3) Ff → P c (form_of c)
low_cases P base c z b l h p q r s = go (c % 4) refl
  where
    below : (n : ℕ) → n < 0x80 → (k : ℕ) → n % 4 ≡ k → low_form k ≡ form_of n
    below n t k e = rw (lt-leb 0x80 n t, e)

    go : (k : ℕ) → c % 4 ≡ k → P c (form_of c)
    go zero e = let w : c ≡ base = omega arith in rw (w, ← below base (omega arith) 0 (rw w at e)) p
    go (suc zero) e = let w : c ≡ base + 1 = omega arith in rw (w, ← below (base + 1) (omega arith) 1 (rw w at e)) q
    go (suc (suc zero)) e = let w : c ≡ base + 2 = omega arith in rw (w, ← below (base + 2) (omega arith) 2 (rw w at e)) r
    go (suc (suc (suc zero))) e = let w : c ≡ base + 3 = omega arith in rw (w, ← below (base + 3) (omega arith) 3 (rw w at e)) s
    go (suc (suc (suc (suc k)))) e = absurd (omega arith)

-- ---- a datagram begins with the first bytes that its fields make

pub six-first : (d : List ℕ) → 6 ≤ length d → get_or d 0 0 ∷ get_or d 1 0 ∷ get_or d 2 0 ∷ get_or d 3 0 ∷ get_or d 4 0 ∷ get_or d 5 0 ∷ drop 6 d ≡ d
six-first d h =
    sym (drop-cons d 0 0 (omega arith)
    ∙ rw (drop-cons d 1 0 (omega arith), drop-cons d 2 0 (omega arith), drop-cons d 3 0 (omega arith), drop-cons d 4 0 (omega arith), drop-cons d 5 0 (omega arith)))

module _ (d : List ℕ) (bytes : AllBytes d) (first : get_or d 0 0 ≡ 0x20) where
  address_bytes_lem : bytes_of (address_of d) ≡ get_or d 2 0 ∷ get_or d 3 0 ∷ get_or d 4 0 ∷ get_or d 5 0 ∷ []
  address_bytes_lem = bytes_back (get_or d 2 0) (get_or d 3 0) (get_or d 4 0) (get_or d 5 0) (bytes 3) (bytes 4) (bytes 5)

  -- byte 0, the command and the address, and what is behind
  six : (c : ℕ) → get_or d 1 0 ≡ c → 6 ≤ length d → (tail : List ℕ) → tail ≡ drop 6 d → 0x20 ∷ c ∷ (bytes_of (address_of d) ++ tail) ≡ d
  six c e h tail t =
      ap (λ (l : List ℕ). 0x20 ∷ c ∷ (l ++ tail)) address_bytes_lem ∙ rw (t, ← e, ← first) (six-first d h)

  abbrev Begins : ℕ → ℕ → Form → Type 0
  Begins base c f =
      get_or d 1 0 ≡ c → head_length f ≤ length d → (head_bytes base f (space_of f d) (address_of d) ++ drop (head_length f) d ≡ d) × Names f (space_of f d)

  pub head_back : (base : ℕ) → base % 4 ≡ 0 → base + 3 < 0x80 → base ≤ get_or d 1 0 → get_or d 1 0 ≤ base + 3 → head_length (form_in d) ≤ length d →
      (head_bytes base (form_in d) (space_of (form_in d) d) (address_of d) ++ drop (head_length (form_in d)) d ≡ d) × Names (form_in d) (space_of (form_in d) d)
  unfolding head_bytes
  head_back base z b l h k =
      low_cases (Begins base) base (get_or d 1 0) z b l h
      (λ e n. (six (base / 4 * 4 + 0) (e ∙ rw (base_itself base z) (sym (add-zero base))) (omega arith) (get_or d 6 0 ∷ drop 7 d) (sym (drop-cons d 6 0 (omega arith))), tt))
      (λ e n. (six (base / 4 * 4 + 1) (e ∙ rw (base_itself base z)) n (drop 6 d) refl, refl))
      (λ e n. (six (base / 4 * 4 + 2) (e ∙ rw (base_itself base z)) n (drop 6 d) refl, refl))
      (λ e n. (six (base / 4 * 4 + 3) (e ∙ rw (base_itself base z)) n (drop 6 d) refl, refl))
      refl k
