-- `put_parts` meets its contract: the parts are put one behind the other, and nothing is left.
-- Assumes nothing.
use Prim.Native.Nat.{ℕ, ◌+◌, ◌-◌, ◌*◌, ◌/◌, ◌%◌}
use mathlib.Core.Path.{◌≡◌, ◌∙◌}
use mathlib.Core.List.{List}
use native.Mathlib.Omega.{arith}
use lib.ListN.{length}
use lib.Seq.{take-length}
use Rattle.hex_print.proofs.PutLaws.{Put, put_none, put_kept, put_next, two_of, four_of, bit_of_2, bit_of_4, eights_left, one_left}
use Rattle.std.proofs.Common.{◌≤◌, cond, take, drop, nat_lt}
use Rattle.buffer.specs.Buffer.{put_at}
use Rattle.hex_print.specs.Digits.{digits_of}
use Rattle.hex_print.proofs.put_parts.Goals as goal

-- the bytes, the text before, and where it starts
module _ (s o : List ℕ) (at : ℕ) (h : at + length s * 2 ≤ length o) where
  -- two bytes, where their number has that bit
  module _ {r : ℕ} {o' : List ℕ} (e : r ≡ 0 + two_of (length s))
      (q : o' ≡ put_at (at + 0 * 2) (digits_of (take (two_of (length s)) (drop 0 s))) o) where
    two-index : r ≡ length s / 2 % 2 * 2
    two-index = omega (arith, e, bit_of_2 (length s))

    two-put : Put s o at r o'
    two-put = put_next _ _ _ 0 (put_none s _ _) h _ _ e (omega (arith, bit_of_2 (length s))) q

    two-kept : length o' ≡ length o
    two-kept = put_kept _ _ _ r two-put h (omega (arith, two-index))

  -- four more, where it has that one
  module _ {r r' : ℕ} {o' o'' : List ℕ} (i : r ≡ length s / 2 % 2 * 2) (p : Put s o at r o')
      (e : r' ≡ r + four_of (length s))
      (q : o'' ≡ put_at (at + r * 2) (digits_of (take (four_of (length s)) (drop r s))) o') where
    four-index : r' ≡ length s / 2 % 2 * 2 + length s / 4 % 2 * 4
    four-index = omega (arith, e, i, bit_of_4 (length s))

    four-put : Put s o at r' o''
    four-put = put_next _ _ _ r p h _ _ e (omega (arith, i, bit_of_4 (length s))) q

    four-kept : length o'' ≡ length o
    four-kept = put_kept _ _ _ r' four-put h (omega (arith, four-index))

  -- as many times eight as are left
  module _ {r r' : ℕ} {o' o'' : List ℕ} (i : r ≡ length s / 2 % 2 * 2 + length s / 4 % 2 * 4) (p : Put s o at r o')
      (e : r' ≡ r + (length s - r) / 8 * 8)
      (q : o'' ≡ put_at (at + r * 2) (digits_of (take ((length s - r) / 8 * 8) (drop r s))) o') where
    eight-index : r' + length s % 2 ≡ length s
    eight-index =
        let n = length s in
        let f : r' ≡ (n / 2 % 2 * 2 + n / 4 % 2 * 4) + (n - (n / 2 % 2 * 2 + n / 4 % 2 * 4)) / 8 * 8 = rw i at e in
        omega (arith, f, eights_left n)

    eight-put : Put s o at r' o''
    eight-put = put_next _ _ _ r p h _ _ e (omega (arith, i)) q

    eight-kept : length o'' ≡ length o
    eight-kept = put_kept _ _ _ r' eight-put h (omega (arith, eight-index))

  -- the last byte, where one is left
  last-put : (r : ℕ) {o' o'' : List ℕ} → r + length s % 2 ≡ length s → Put s o at r o'
      → o'' ≡ put_at (at + r * 2) (digits_of (take (cond (nat_lt r (length s)) 1 0) (drop r s))) o' → o'' ≡ put_at at (digits_of s) o
  last-put r i p q =
      let n = length s in
      let w = one_left n r (omega (arith, i)) (omega (arith, i)) in
      put_next _ _ _ r p h (n - r) n (omega (arith, i)) (omega (arith, i)) (rw (← w) q) ∙ rw take-length

pub put_part-four-requires : goal.put_part-four-requires
put_part-four-requires c =
    let s = c.args.bytes.now in
    let e = c.put_part-two.ensures in
    let i = two-index s c.args.out.now c.args.at c.requires e.end e.out in
    let k = two-kept s c.args.out.now c.args.at c.requires e.end e.out in
    (omega (arith, i, bit_of_4 (length s)), omega (arith, k))

pub returns : goal.returns
returns c =
    let s = c.args.bytes.now in
    let o = c.args.out.now in
    let e = c.put_part-two.ensures in
    let f = c.put_part-four.ensures in
    let g = c.put_eights-eight.ensures in
    let i = two-index s o c.args.at c.requires e.end e.out in
    let p = two-put s o c.args.at c.requires e.end e.out in
    let j = four-index s o c.args.at c.requires i p f.end f.out in
    let q = four-put s o c.args.at c.requires i p f.end f.out in
    let k = eight-index s o c.args.at c.requires j q g.end g.out in
    let r = eight-put s o c.args.at c.requires j q g.end g.out in
    last-put s o c.args.at c.requires _ k r c.put_part.ensures.out
