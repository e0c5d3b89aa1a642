-- C-16 of document 02: "If two accepted writes touch no common bit of memory, whichever spaces name it, either order
-- leaves the same memory and gives each the same reply." Then of lists of writes that come interleaved.
use Rattle.std.specs.Prelude.{ℕ, ◌≡◌, true, List, [], ◌∷◌, ◌++◌}
use Rattle.buffer.specs.Buffer.{AllBytes, Each}
use Rattle.space_table.specs.declared.Space.{Space}
use Rattle.reply_answer.specs.Answers.{Result}
use Rattle.exec_spec.specs.Handling.{Fixed, Contents, handle}
use Rattle.mask_combine.specs.Combining.{NoCommonBit, PairsAddUp}
use Rattle.mask_effects_spec.specs.Effects.{is_accepted_write, is_write, effect_of, contents_after_all, AcceptedWrites, Content, AddsUp, OnGoodBoards}

-- ---- two writes

-- A write touches the bits that its masks have at 1, all eight for a plain write, in the bytes of memory that it
-- reaches. So two that name one byte by different spaces or addresses may touch a common bit, and two with the same
-- address may touch none.
abbrev pub Apart : List Space → ℕ → List ℕ → List ℕ → Type 0
Apart spaces m d e = NoCommonBit (effect_of spaces m d) (effect_of spaces m e)

-- "either order leaves the same memory", and the same registers, "and gives each the same reply"
pub record EitherOrder (x : Fixed) (c : Contents) (d e : List ℕ) : Type 0 where
  pub contents : contents_after_all x c (d ∷ e ∷ []) ≡ contents_after_all x c (e ∷ d ∷ [])
  pub reply_to_first : (handle x (handle x c e).contents d).result ≡ (handle x c d).result
  pub reply_to_second : (handle x (handle x c d).contents e).result ≡ (handle x c e).result

abbrev pub TwoWrites : Fixed → ℕ → Type 0
TwoWrites x m =
    (c : Contents) (d e : List ℕ) → Content m c → AllBytes d → AllBytes e → is_accepted_write x.spaces d ≡ true → is_accepted_write x.spaces e ≡ true →
    Apart x.spaces m d e → EitherOrder x c d e

-- ---- lists of them

-- The third list is the first and the second interleaved: each in its own order.
pub data Interleaved (A : Type 0) : List A → List A → List A → Type 0 where
  none : Interleaved A [] [] []
  left : {a : A} {firsts seconds both : List A} → Interleaved A firsts seconds both → Interleaved A (a ∷ firsts) seconds (a ∷ both)
  right : {b : A} {firsts seconds both : List A} → Interleaved A firsts seconds both → Interleaved A firsts (b ∷ seconds) (b ∷ both)

-- The answers to datagrams, each handled on what the one before left.
unfoldable pub results_of : Fixed → Contents → List (List ℕ) → List Result
results_of x c [] = []
results_of x c (d ∷ more) = (handle x c d).result ∷ results_of x (handle x c d).contents more

-- No write of one list touches a bit that a write of the other touches.
abbrev pub AllApart : List Space → ℕ → List (List ℕ) → List (List ℕ) → Type 0
AllApart spaces m ds es = Each (λ (d : List ℕ). Each (Apart spaces m d) es) ds

-- However the lists come interleaved, memory is the same: that of the one list and then the other.
abbrev pub Interleaves : Fixed → ℕ → Type 0
Interleaves x m =
    (c : Contents) (ds es fs : List (List ℕ)) → Content m c → Each AllBytes ds → Each AllBytes es → AllApart x.spaces m ds es → Interleaved (List ℕ) ds es fs →
    (contents_after_all x c fs).memory ≡ (contents_after_all x c (ds ++ es)).memory

-- Writes, accepted or refused, are answered by the description alone: each tool hears of its own what it would hear of
-- it by itself, whatever the other writes in between. And they leave the registers.
pub record OwnReplies : Type 0 where
  pub replies : (x : Fixed) (c : Contents) (ds es fs : List (List ℕ)) → Each (λ (d : List ℕ). is_write d ≡ true) ds → Each (λ (e : List ℕ). is_write e ≡ true) es →
      Interleaved (List ℕ) ds es fs → Interleaved Result (results_of x c ds) (results_of x c es) (results_of x c fs)
  pub registers : (x : Fixed) (c : Contents) (ds : List (List ℕ)) → Each (λ (d : List ℕ). is_write d ≡ true) ds
      → (contents_after_all x c ds).registers ≡ c.registers

-- ---- all of C-16

pub record WritesAddUp : Type 0 where
  pub pairs : PairsAddUp
  pub accepted : AcceptedWrites
  pub adds_up : OnGoodBoards AddsUp
  pub two_writes : OnGoodBoards TwoWrites
  pub interleaves : OnGoodBoards Interleaves
  pub own_replies : OwnReplies
