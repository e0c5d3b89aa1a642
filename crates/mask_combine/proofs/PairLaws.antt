-- Laws of a mask and a data byte, and of two of them put together. Each is shown bit by bit.
-- Assumes nothing.
use Prim.Native.Nat.{ℕ, zero, suc, ◌-◌, ◌≤◌, ◌<◌, min, max}
use mathlib.Core.Path.{◌≡◌, refl, sym, ap, ap₂, ◌∙◌}
use native.Mathlib.Omega.{arith}
use native.Mathlib.Nat.{max-zero, zero-max, suc-max-suc, mod-eq_of_lt}
use lib.Bits.{bit_and, bit_or, and_le_l, and_le_r, or_lt, or_comm, or_zero_r, and_zero_r, and_mask}
use Rattle.cmd_fields.specs.Commands.{Pair, pair}
use Rattle.exec_store.specs.Storing.{mask_byte}
use Rattle.mask_combine.specs.Combining.{untouched, plain, zero_outside, put_together, Proper}
use Rattle.mask_combine.proofs.Bits.{bit_at, bit_small, bit_zero, bit_and_lem, bit_or_lem, bit_not, bits_ext}

pub byte_ext : (a b : ℕ) → a < 256 → b < 256 → ((k : ℕ) → k < 8 → bit_at k a ≡ bit_at k b) → a ≡ b
byte_ext = bits_ext 8

-- ---- a bit of a masked byte

-- A bit v where the mask's bit m is 1, and else the bit o that is kept.
abbrev pub chosen : ℕ → ℕ → ℕ → ℕ
chosen zero v o = o
chosen (suc m) v o = v

choose : (m v o : ℕ) → m ≤ 1 → v ≤ 1 → o ≤ 1 → max (min o (1 - m)) (min v m) ≡ chosen m v o
choose zero v o a b c = omega arith
choose (suc zero) v o a b c = omega arith
choose (suc (suc m)) v o a b c = absurd (omega arith)

pub mask-bit : (k o : ℕ) (p : Pair) → k < 8 → p.mask < 256 → bit_at k (mask_byte o p) ≡ chosen (bit_at k p.mask) (bit_at k p.value) (bit_at k o)
mask-bit k o p h l =
    bit_or_lem k (bit_and o (255 - p.mask)) (bit_and p.value p.mask)
    ∙ ap₂ max (bit_and_lem k o (255 - p.mask) ∙ ap (min (bit_at k o)) (bit_not 8 k p.mask h l)) (bit_and_lem k p.value p.mask)
    ∙ choose (bit_at k p.mask) (bit_at k p.value) (bit_at k o) (bit_small k p.mask) (bit_small k p.value) (bit_small k o)

pub mask-small : (o : ℕ) (p : Pair) → p.mask < 256 → mask_byte o p < 256
mask-small o p l = or_lt 8 (bit_and o (255 - p.mask)) (bit_and p.value p.mask) (omega (arith, and_le_r o (255 - p.mask))) (omega (arith, and_le_r p.value p.mask))

either_small : (a b : ℕ) → a < 256 → b < 256 → bit_or a b < 256
either_small = or_lt 8

-- ---- what lies outside the mask

pub proper-bit : {p : Pair} → Proper p → (k : ℕ) → k < 8 → bit_at k p.value ≤ bit_at k p.mask
proper-bit {p} h k l =
    let e : min (bit_at k p.value) (1 - bit_at k p.mask) ≡ 0
    = ap (min (bit_at k p.value)) (sym (bit_not 8 k p.mask l h.mask)) ∙ sym (bit_and_lem k p.value (255 - p.mask)) ∙ ap (bit_at k) h.outside ∙ bit_zero k in
    omega (arith, bit_small k p.value, bit_small k p.mask, e)

pub by_bits : {p : Pair} → p.mask < 256 → p.value < 256 → ((k : ℕ) → k < 8 → bit_at k p.value ≤ bit_at k p.mask) → Proper p
by_bits {p} m v h =
    record {
      mask = m;
      value = v;
      outside =
          byte_ext (bit_and p.value (255 - p.mask)) 0 (omega (arith, and_le_l p.value (255 - p.mask))) (omega arith)
          (λ k l. bit_and_lem k p.value (255 - p.mask) ∙ ap (min (bit_at k p.value)) (bit_not 8 k p.mask l m)
          ∙ (let z : min (bit_at k p.value) (1 - bit_at k p.mask) ≡ 0 = omega (arith, h k l, bit_small k p.mask) in z) ∙ sym (bit_zero k));
    }

-- ---- one after the other

turn : (ma mb va vb o : ℕ) → chosen mb vb (chosen ma va o) ≡ chosen (max ma mb) (chosen mb vb va) o
turn zero zero va vb o = refl
turn (suc ma) zero va vb o = rw (max-zero (suc ma))
turn zero (suc mb) va vb o = rw (zero-max (suc mb))
turn (suc ma) (suc mb) va vb o = rw (suc-max-suc ma mb)

pub in_turn : (o : ℕ) (a b : Pair) → a.mask < 256 → b.mask < 256 → mask_byte (mask_byte o a) b ≡ mask_byte o (put_together a b)
in_turn o a b p q =
    let r = either_small a.mask b.mask p q in
    byte_ext (mask_byte (mask_byte o a) b) (mask_byte o (put_together a b)) (mask-small (mask_byte o a) b q) (mask-small o (put_together a b) r)
    (λ k h. mask-bit k (mask_byte o a) b h q ∙ ap (chosen (bit_at k b.mask) (bit_at k b.value)) (mask-bit k o a h p)
    ∙ turn (bit_at k a.mask) (bit_at k b.mask) (bit_at k a.value) (bit_at k b.value) (bit_at k o)
    ∙ ap₂ (λ (m v : ℕ). chosen m v (bit_at k o)) (sym (bit_or_lem k a.mask b.mask)) (sym (mask-bit k a.value b h q))
    ∙ sym (mask-bit k o (put_together a b) h r))

pub together-proper : {a b : Pair} → Proper a → Proper b → Proper (put_together a b)
together-proper {a} {b} p q =
    by_bits (either_small a.mask b.mask p.mask q.mask) (mask-small a.value b q.mask)
    (λ k h. rw (mask-bit k a.value b h q.mask, bit_or_lem k a.mask b.mask) (go _ _ _ _ (proper-bit p k h) (proper-bit q k h)))
  where
    go : (ma mb va vb : ℕ) → va ≤ ma → vb ≤ mb → chosen mb vb va ≤ max ma mb
    go ma zero va vb x y = omega arith
    go ma (suc mb) va vb x y = omega arith

or_assoc : (a b c : ℕ) → a < 256 → b < 256 → c < 256 → bit_or (bit_or a b) c ≡ bit_or a (bit_or b c)
or_assoc a b c p q r =
    byte_ext (bit_or (bit_or a b) c) (bit_or a (bit_or b c)) (either_small (bit_or a b) c (either_small a b p q) r) (either_small a (bit_or b c) p (either_small b c q r))
    (λ k h. rw (bit_or_lem k (bit_or a b) c, bit_or_lem k a b, bit_or_lem k a (bit_or b c), bit_or_lem k b c) (omega arith))

pub groups : {a b c : Pair} → Proper a → Proper b → Proper c → put_together (put_together a b) c ≡ put_together a (put_together b c)
groups {a} {b} {c} p q r = ap₂ pair (or_assoc a.mask b.mask c.mask p.mask q.mask r.mask) (in_turn a.value b c q.mask r.mask)

-- ---- nothing

pub untouched-proper : Proper untouched
untouched-proper = record { mask = omega arith; value = omega arith; outside = refl }

pub zero-mask : (o : ℕ) (p : Pair) → o < 256 → p.mask ≡ 0 → mask_byte o p ≡ o
zero-mask o p h e = rw (e, and_zero_r p.value, or_zero_r (bit_and o 255)) (and_mask o 8 ∙ mod-eq_of_lt h)

pub kept : (o : ℕ) → o < 256 → mask_byte o untouched ≡ o
kept o h = zero-mask o untouched h refl

over_zero : {p : Pair} → Proper p → mask_byte 0 p ≡ p.value
over_zero {p} h =
    byte_ext (mask_byte 0 p) p.value (mask-small 0 p h.mask) h.value
    (λ k l. mask-bit k 0 p l h.mask ∙ go (bit_at k p.mask) (bit_at k p.value) (bit_at k 0) (proper-bit h k l) (bit_zero k))
  where
    go : (m v o : ℕ) → v ≤ m → o ≡ 0 → chosen m v o ≡ v
    go zero v o x y = omega arith
    go (suc m) v o x y = refl

pub before : {p : Pair} → Proper p → put_together untouched p ≡ p
before {p} h = ap (pair p.mask) (over_zero h)

pub behind : {p : Pair} → Proper p → put_together p untouched ≡ p
behind {p} h = ap₂ pair (or_zero_r p.mask) (kept p.value h.value)

-- ---- either order

pub either_order : {a b : Pair} → Proper a → Proper b → bit_and a.mask b.mask ≡ 0 → put_together a b ≡ put_together b a
either_order {a} {b} p q z =
    ap₂ pair (or_comm a.mask b.mask)
    (byte_ext (mask_byte a.value b) (mask_byte b.value a) (mask-small a.value b q.mask) (mask-small b.value a p.mask)
    (λ k h. mask-bit k a.value b h q.mask
    ∙ go (bit_at k a.mask) (bit_at k b.mask) (bit_at k a.value) (bit_at k b.value) (proper-bit p k h) (proper-bit q k h) (sym (bit_and_lem k a.mask b.mask) ∙ ap (bit_at k) z ∙ bit_zero k)
    ∙ sym (mask-bit k b.value a h p.mask)))
  where
    go : (ma mb va vb : ℕ) → va ≤ ma → vb ≤ mb → min ma mb ≡ 0 → chosen mb vb va ≡ chosen ma va vb
    go zero zero va vb x y e = omega arith
    go (suc ma) zero va vb x y e = refl
    go zero (suc mb) va vb x y e = refl
    go (suc ma) (suc mb) va vb x y e = absurd (omega arith)

pub apart : (a b : Pair) {c : Pair} → Proper c → bit_and a.mask c.mask ≡ 0 → bit_and b.mask c.mask ≡ 0 → bit_and (put_together a b).mask c.mask ≡ 0
apart a b {c} r p q =
    let l = and_le_r (bit_or a.mask b.mask) c.mask in
    let h = r.mask in
    byte_ext (bit_and (bit_or a.mask b.mask) c.mask) 0 (omega arith) (omega arith)
    (λ k _.
    let x : min (bit_at k a.mask) (bit_at k c.mask) ≡ 0 = sym (bit_and_lem k a.mask c.mask) ∙ ap (bit_at k) p ∙ bit_zero k in
    let y : min (bit_at k b.mask) (bit_at k c.mask) ≡ 0 = sym (bit_and_lem k b.mask c.mask) ∙ ap (bit_at k) q ∙ bit_zero k in
    rw (bit_and_lem k (bit_or a.mask b.mask) c.mask, bit_or_lem k a.mask b.mask, bit_zero k) (omega arith))

-- ---- plain writes, and data outside the mask

pub plainly : (o b : ℕ) → b < 256 → mask_byte o (plain b) ≡ b
plainly o b h = rw (and_zero_r o) (and_mask b 8 ∙ mod-eq_of_lt h)

pub plain-proper : (b : ℕ) → b < 256 → Proper (plain b)
plain-proper b h = record { mask = omega arith; value = h; outside = and_zero_r b }

and-twice : (v m : ℕ) → m < 256 → bit_and (bit_and v m) m ≡ bit_and v m
and-twice v m h =
    let l = and_le_r v m in
    byte_ext (bit_and (bit_and v m) m) (bit_and v m) (omega (arith, and_le_r (bit_and v m) m)) (omega arith)
    (λ k _. rw (bit_and_lem k (bit_and v m) m, bit_and_lem k v m) (omega arith))

pub outside-ignored : (o : ℕ) (p : Pair) → p.mask < 256 → mask_byte o (zero_outside p) ≡ mask_byte o p
outside-ignored o p h = ap (bit_or (bit_and o (255 - p.mask))) (and-twice p.value p.mask h)

pub outside-proper : (p : Pair) → p.mask < 256 → Proper (zero_outside p)
outside-proper p h =
    by_bits h (omega (arith, and_le_r p.value p.mask))
    (λ k _. rw (bit_and_lem k p.value p.mask) (omega arith))

-- ---- what is done to a byte of zeros and to one of ones says which pair it is

pub unique : {p q : Pair} → Proper p → Proper q → mask_byte 0 p ≡ mask_byte 0 q → mask_byte 255 p ≡ mask_byte 255 q → p ≡ q
unique {p} {q} a b zeros ones =
    let v : p.value ≡ q.value = sym (over_zero a) ∙ zeros ∙ over_zero b in
    ap₂ pair
    (byte_ext p.mask q.mask a.mask b.mask
    (λ k h. go (bit_at k p.mask) (bit_at k q.mask) (bit_at k p.value) (bit_at k q.value) (bit_at k 255)
    (proper-bit a k h) (proper-bit b k h) (ap (bit_at k) v) (bit_not 8 k 0 h (omega arith) ∙ ap (λ (x : ℕ). 1 - x) (bit_zero k)) (bit_small k p.mask) (bit_small k q.mask)
    (sym (mask-bit k 255 p h a.mask) ∙ ap (bit_at k) ones ∙ mask-bit k 255 q h b.mask)))
    v
  where
    go : (m n v w o : ℕ) → v ≤ m → w ≤ n → v ≡ w → o ≡ 1 → m ≤ 1 → n ≤ 1 → chosen m v o ≡ chosen n w o → m ≡ n
    go zero zero v w o x y e f l k s = refl
    go (suc m) zero v w o x y e f l k s = omega arith
    go zero (suc n) v w o x y e f l k s = omega arith
    go (suc m) (suc n) v w o x y e f l k s = omega arith

-- ---- as the code puts them together

pub as_code : (a b : Pair) → b.mask < 256 →
    pair (bit_or a.mask b.mask) (bit_or (bit_and (bit_and a.value a.mask) (255 - b.mask)) (bit_and b.value b.mask))
    ≡ put_together (zero_outside a) (zero_outside b)
as_code a b h = ap (pair (bit_or a.mask b.mask)) (sym (outside-ignored (bit_and a.value a.mask) b h))
