-- `append` meets its contract: what is put first and what is put behind it are the line, cut off at 29 bytes.
-- Assumes nothing.
use Prim.Native.Nat.{ℕ, ◌+◌, ◌-◌, min}
use mathlib.Core.Path.{◌≡◌, sym, ap, ◌∙◌}
use mathlib.Core.List.{List, ◌++◌}
use native.Mathlib.Omega.{arith}
use borrow.Author.Rules.{rules}
use lib.ListN.{length, take, replicate, length-append}
use lib.Seq.{length-take-le}
use Rattle.buffer.specs.Buffer.{over, placed}
use Rattle.buffer.proofs.Laws.{placed-fits, put_first, place-over, over_zeros}
use Rattle.gridconnect_input.specs.declared.Carry.{Carry}
use Rattle.gridconnect_input.specs.Input.{carry_with, begun_of, cut_off}
use Rattle.gridconnect_input.proofs.CutLaws.{take_more, cut_both}
use Rattle.gridconnect_input.proofs.append.Goals as goal

-- what the two copies leave
module _ (carry : Carry) (part : List ℕ) (n k : ℕ) (t u : List ℕ) (full : length carry.text ≡ 29) (en : n ≡ min carry.len 29)
    (ek : k ≡ min (29 - n) (length part)) (et : t ≡ placed 0 (take n carry.text) (replicate 29 0)) (eu : u ≡ placed n (take k part) t) where
  begun : take n carry.text ≡ begun_of carry
  begun = rw (en, ← full) (take_more carry.len carry.text)

  appended : record { len = n + k; text = u; spare = replicate 2 0 } ≡ carry_with (begun_of carry ++ part)
  appended =
      let ln : length (take n carry.text) ≡ n = length-take-le n carry.text (omega arith) in
      let lk : length (take k part) ≡ k = length-take-le k part (omega arith) in
      let xs : List ℕ = take n carry.text ++ take k part in
      let lx : length xs ≡ n + k = length-append (take n carry.text) (take k part) ∙ (omega arith) in
      let first : t ≡ over (take n carry.text) (replicate 29 0) = et ∙ placed-fits 0 (take n carry.text) (replicate 29 0) (omega arith) ∙ put_first (take n carry.text) (replicate 29 0) in
      let both : u ≡ xs ++ replicate (29 - length xs) 0 = eu ∙ place-over (take n carry.text) (take k part) (replicate 29 0) n first ln (omega arith) ∙ over_zeros 29 xs in
      let cut : cut_off (begun_of carry ++ part) ≡ xs = ap (λ (b : List ℕ). cut_off (b ++ part)) (sym begun) ∙ cut_both 29 (take n carry.text) part k (omega arith) (rw ln ek) in
      rw (cut, lx, both, lx)

pub returns : goal.returns
returns c =
    let full : length c.args.carry.text ≡ 29 = search rules in
    appended c.args.carry _ _ _ _ _ full c.min-n.ensures c.min-k.ensures c.put.ensures c.put-2.ensures
