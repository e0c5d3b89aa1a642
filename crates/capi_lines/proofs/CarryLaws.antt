-- Laws of a carry in its bytes: it is found again in them, its text as it is copied, and that a step reads no more than the beginning.
-- Assumes nothing.
use Prim.Native.Nat.{ℕ, ◌+◌, ◌-◌, ◌≤◌}
use mathlib.Core.Path.{◌≡◌, refl, sym, ◌∙◌}
use mathlib.Core.List.{List, [], ◌∷◌, ◌++◌, append-nil}
use native.Mathlib.Omega.{arith}
use lib.ListN.{length, take, drop, get_or, replicate, length-append, length-replicate, length-take, length-drop}
use lib.Seq.{take_at, length-take-le}
use Rattle.buffer.specs.Buffer.{put_at, placed}
use Rattle.buffer.proofs.Laws.{placed-fits}
use Rattle.gridconnect_input.specs.Input.{unfinished, cut_off, carry_of, next_of, last_of}
use Rattle.gridconnect_input.specs.declared.Carry.{Carry}
use Rattle.capi_lines.specs.Lines.{carry_bytes, carry_in, SameBeginning, CarryAgain}

-- bytes put over a part of a buffer
pub put-between : (at n : ℕ) (xs buffer : List ℕ) {after : List ℕ} → length xs ≡ n → at + n ≤ length buffer → after ≡ placed at xs buffer
    → after ≡ take at buffer ++ xs ++ drop (at + n) buffer
unfolding put_at
put-between at n xs buffer e h q = q ∙ placed-fits at xs buffer (rw e h) ∙ rw e

pub carry-again : CarryAgain
unfolding carry_bytes carry_in
carry-again line =
    let text : List ℕ = cut_off line ++ replicate (29 - length (cut_off line)) 0 in
    let few : length (cut_off line) ≤ 29 = rw length-take (omega arith) in
    let size : length text ≡ 29 = simp (length-append, length-replicate) (omega arith) in
    rw (take_at text (0 ∷ 0 ∷ []) 29 size)

module _ (bytes : List ℕ) where
  pub text-copied : length bytes ≡ 32 → {text : List ℕ} → text ≡ placed 0 (take 29 (drop 1 bytes)) (replicate 29 0) → text ≡ take 29 (drop 1 bytes)
  unfolding put_at
  text-copied h q =
      let l : length (drop 1 bytes) ≡ 31 = simp length-drop (omega arith) in
      let size : length (take 29 (drop 1 bytes)) ≡ 29 = length-take-le 29 (drop 1 bytes) (omega arith) in
      q ∙ placed-fits 0 (take 29 (drop 1 bytes)) (replicate 29 0) (omega arith) ∙ rw (size, append-nil)

  pub nothing-begun : get_or bytes 0 0 ≡ 0 → {carry : Carry} → carry ≡ carry_of [] → SameBeginning carry (carry_in bytes)
  unfolding carry_in unfinished
  nothing-begun z e = rw e (record { len = sym z; begun = rw z })

  pub text-begun : {text : List ℕ} → text ≡ take 29 (drop 1 bytes)
      → SameBeginning (record { len = get_or bytes 0 0; text = text; spare = replicate 2 0 }) (carry_in bytes)
  unfolding carry_in
  text-begun e = rw e (record { len = refl; begun = refl })

module _ {carry other : Carry} (same : SameBeginning carry other) where
  pub same_next : (chunk : List ℕ) (from : ℕ) → next_of carry chunk from ≡ next_of other chunk from
  unfolding next_of
  same_next chunk from = rw same.begun

  pub same-last : last_of carry ≡ last_of other
  unfolding last_of
  same-last = rw (same.begun, same.len)
