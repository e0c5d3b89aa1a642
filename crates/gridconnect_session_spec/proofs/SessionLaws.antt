-- Laws of a session's text: lines behind others, and that cuts play no part.
-- Assumes nothing.
use Prim.Native.Nat.{ℕ}
use mathlib.Core.Path.{◌≡◌, refl, sym, ap, ◌∙◌}
use mathlib.Core.List.{List, [], ◌∷◌, ◌++◌, append-nil, append_assoc}
use Rattle.rx_place_spec.specs.State.{State}
use Rattle.exec_spec.specs.Handling.{Fixed, Contents}
use Rattle.gridconnect_parse.specs.Parsing.{Parsed}
use Rattle.gridconnect_input.specs.Input.{read_from, carry_after, carry_of, read_chunks, carry_after_chunks, last_of, lines_given}
use Rattle.gridconnect_input.specs.declared.Carry.{Carry}
use Rattle.gridconnect_input.proofs.ChunkLaws.{any_cuts}
use Rattle.gridconnect_session_spec.specs.Turn.{turn, answer_line}
use Rattle.gridconnect_session_spec.specs.Session.{after_text, answer_lines, session_in_chunks, AnyChunks}

-- ---- lines behind others

module _ (x : Fixed) where
  pub lines-append : (st : State) (c : Contents) (ps qs : List Parsed) →
      answer_lines x st c (ps ++ qs) ≡ after_text (answer_lines x st c ps).text (answer_lines x (answer_lines x st c ps).state (answer_lines x st c ps).contents qs)
  unfolding answer_lines
  lines-append st c [] qs = refl
  lines-append st c (p ∷ ps) qs =
      let t = answer_line x st c p in
      ap (after_text t.text) (lines-append t.state t.contents ps qs) ∙ rw append_assoc

  pub one_line : (st : State) (c : Contents) (p : Parsed) → answer_lines x st c (p ∷ []) ≡ answer_line x st c p
  unfolding answer_lines
  one_line st c p = rw append-nil

  pub no_line : (st : State) (c : Contents) → answer_lines x st c [] ≡ turn [] st c
  unfolding answer_lines
  no_line st c = refl

-- ---- cuts play no part

module _ (x : Fixed) where
  chunks_are : (st : State) (c : Contents) (carry : Carry) (chunks : List (List ℕ)) →
      session_in_chunks x st c carry chunks ≡ answer_lines x st c (read_chunks carry chunks ++ lines_given (last_of (carry_after_chunks carry chunks)))
  unfolding session_in_chunks read_chunks carry_after_chunks
  chunks_are st c carry [] = refl
  chunks_are st c carry (chunk ∷ more) =
      let t = answer_lines x st c (read_from carry chunk) in
      ap (after_text t.text) (chunks_are t.state t.contents (carry_after carry chunk) more)
      ∙ sym (lines-append x st c (read_from carry chunk) (read_chunks (carry_after carry chunk) more ++ lines_given (last_of (carry_after_chunks (carry_after carry chunk) more))))
      ∙ rw append_assoc

  pub any_chunks : AnyChunks x
  any_chunks st c chunks = chunks_are st c (carry_of []) chunks ∙ ap (answer_lines x st c) (any_cuts.all chunks)
