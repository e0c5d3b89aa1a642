-- Laws of chunks answered: the line of a step, a turn of the loop over a chunk, and the end of the input.
-- Assumes nothing.
use Prim.Native.Nat.{ℕ, ◌+◌, ◌≤◌, ◌<◌}
use mathlib.Core.Path.{◌≡◌, refl, sym, ap, ◌∙◌}
use mathlib.Core.List.{List, [], ◌∷◌, ◌++◌, append_assoc}
use native.Mathlib.Omega.{arith}
use native.Mathlib.Nat.{add-zero}
use lib.Dec.{ltb, eqb}
use lib.ListN.{length, take, drop}
use lib.Seq.{drop-drop}
use borrow.Author.Tests.{le-leb, lt-leb, eqb-true, eqb-false}
use Rattle.buffer.proofs.Choice.{cond-elim, by-test}
use Rattle.buffer.proofs.Laws.{put_nil, put_length, take_put, drop-behind}
use Rattle.rx_place_spec.specs.State.{State}
use Rattle.exec_spec.specs.Handling.{Fixed, Contents}
use Rattle.gridconnect_parse.specs.Parsing.{Parsed, parse_of}
use Rattle.gridconnect_input.specs.Newline.{until_newline}
use Rattle.gridconnect_input.specs.Input.{next_of, read_from, carry_after, last_of, lines_given, line, no_line, begun_of, carry_with, LineStep}
use Rattle.gridconnect_input.specs.declared.Carry.{Carry}
use Rattle.gridconnect_input.specs.declared.Next.{Next}
use Rattle.gridconnect_session_spec.specs.Turn.{Turn, answer_line, answer_with_room, Prints}
use Rattle.gridconnect_session_spec.specs.Session.{after_text, answer_lines}
use Rattle.gridconnect_session_spec.proofs.SessionLaws.{lines-append, one_line}
use Rattle.gridconnect_session.specs.Chunks.{ChunkAnswered, at_end}

-- the line of a step: one that is complete is answered, and none is not
module _ (x : Fixed) (st : State) (c : Contents) (at : ℕ) (out : List ℕ) (room : at + 290 ≤ length out) where
  pub step_none : Prints (answer_lines x st c []) at out at out c st
  unfolding answer_lines
  step_none = record { end = sym (add-zero at); few = omega arith; out = sym (put_nil at out); contents = refl; state = refl }

  pub step_line : (parsed : Parsed) {r : ℕ} {after : List ℕ} {c' : Contents} {st' : State}
      → Prints (answer_with_room x st c parsed at out) at out r after c' st' → Prints (answer_lines x st c (parsed ∷ [])) at out r after c' st'
  step_line parsed {r} {after} {c'} {st'} q =
      let p : Prints (answer_line x st c parsed) at out r after c' st' = rw (le-leb (at + 290) (length out) room) at q in
      rw (one_line x st c parsed) p

-- ---- a chunk

-- two numbers are equal, or not
by_eqb : {P : Type 0} (m n : ℕ) → (m ≡ n → P) → ((m ≡ n → ⊥) → P) → P
by_eqb m n p q = by-test (eqb m n) (λ e. p (eqb-true m n e)) (λ e. q (eqb-false m n e))

-- from an index of the chunk that a step reads: the next is behind it
next_onward : (carry : Carry) (chunk : List ℕ) (at : ℕ) → at < length chunk → at < (next_of carry chunk at).at
unfolding next_of
next_onward carry chunk at h =
    cond-elim (λ (n : Next). at < n.at) (ltb (length (until_newline (drop at chunk))) (length (drop at chunk)))
    {a = line (parse_of (begun_of carry ++ until_newline (drop at chunk))) (carry_with []) (at + length (until_newline (drop at chunk)) + 1)}
    {b = no_line (carry_with (begun_of carry ++ until_newline (drop at chunk))) (length chunk)}
    (λ _. omega arith) (λ _. h)

pub step_onward : (carry : Carry) (chunk : List ℕ) (at : ℕ) (next : Next) → next ≡ next_of carry chunk at → at < length chunk → at < next.at
step_onward carry chunk at next e h = rw e (next_onward carry chunk at h)

-- a chunk answered up to an index
pub record Going (x : Fixed) (st : State) (c : Contents) (begun : Carry) (chunk : List ℕ) (from : ℕ) (before : List ℕ) (at : ℕ) (carry : Carry) (end : ℕ) (after : List ℕ) (c' : Contents) (st' : State) : Type 0 where
  pub text : answer_lines x st c (read_from begun (drop from chunk)) ≡ after_text (take end after) (answer_lines x st' c' (read_from carry (drop at chunk)))
  pub left : carry_after begun (drop from chunk) ≡ carry_after carry (drop at chunk)
  pub fits : end ≤ length before
  pub size : length after ≡ length before
  pub rest : drop end after ≡ drop end before
  pub onward : from ≤ at
  pub first : at ≡ from → end ≡ 0

module _ (x : Fixed) (st : State) (c : Contents) (begun : Carry) (chunk : List ℕ) (from : ℕ) (before : List ℕ) where
  pub going_start : Going x st c begun chunk from before from begun 0 before c st
  going_start = record { text = refl; left = refl; fits = omega arith; size = refl; rest = refl; onward = omega arith; first = λ _. refl }

  module _ (at : ℕ) (carry : Carry) (end : ℕ) (out : List ℕ) (c1 : Contents) (st1 : State) (g : Going x st c begun chunk from before at carry end out c1 st1) where
    pub going_next : at < length chunk → end + 290 ≤ length out → (next : Next) → next ≡ next_of carry chunk at → LineStep carry chunk at next
        → (r : ℕ) (out' : List ℕ) (c2 : Contents) (st2 : State) → Prints (answer_lines x st1 c1 (lines_given next)) end out r out' c2 st2
        → Going x st c begun chunk from before next.at next.carry r out' c2 st2
    going_next h room next e s r out' c2 st2 p =
        let t : Turn = answer_lines x st1 c1 (lines_given next) in
        let more : List Parsed = read_from next.carry (drop next.at chunk) in
        let o = step_onward carry chunk at next e h in
        let f : from ≤ at = g.onward in
        let a : answer_lines x st1 c1 (read_from carry (drop at chunk)) ≡ after_text t.text (answer_lines x st2 c2 more)
        = rw (s.lines, lines-append x st1 c1 (lines_given next) more, p.state, p.contents) refl in
        let k : take r out' ≡ take end out ++ t.text = rw (p.end, p.out) (take_put end t.text out (omega arith)) in
        let m : end + length t.text ≤ length out = let i = p.end in let j = p.few in omega arith in
        let d : drop r out' ≡ drop r out = rw p.out (drop-behind end t.text out (omega arith) r (let i = p.end in omega arith)) in
        let u : drop (length t.text) (drop end out) ≡ drop (length t.text) (drop end before) = ap (drop (length t.text)) g.rest in
        record {
          text = g.text ∙ ap (after_text (take end out)) a ∙ rw k (rw append_assoc);
          left = g.left ∙ s.left;
          fits = let i = p.few in let j = g.size in omega arith;
          size = ap length p.out ∙ put_length end t.text out (omega arith) m ∙ g.size;
          rest = d ∙ rw p.end (sym (drop-drop (length t.text) end out) ∙ u ∙ drop-drop (length t.text) end before);
          onward = omega arith;
          first = λ q. absurd (omega arith);
        }

    -- no room for one more answer, and the end of the chunk
    pub going_full : length out < end + 290 → ChunkAnswered x st c begun chunk from (record { at = at; carry = carry; end = end }) before out c1 st1
    going_full h =
        let s = g.size in
        let o = g.onward in
        record {
          text = g.text;
          carry = g.left;
          end = g.fits;
          size = g.size;
          rest = g.rest;
          onward = λ i j. by_eqb at from (λ q. let z = g.first q in absurd (omega arith)) (λ q. omega arith);
        }

    pub going_end : length chunk ≤ at → ChunkAnswered x st c begun chunk from (record { at = at; carry = carry; end = end }) before out c1 st1
    going_end h =
        record {
          text = g.text;
          carry = g.left;
          end = g.fits;
          size = g.size;
          rest = g.rest;
          onward = λ i j. omega arith;
        }

-- ---- the end of the input

module _ (x : Fixed) (st : State) (c : Contents) (carry : Carry) (out : List ℕ) where
  pub end_none : length out < 290 → Prints (answer_lines x st c (at_end carry out)) 0 out 0 out c st
  unfolding answer_lines
  end_none h = rw (lt-leb 290 (length out) h) (record { end = refl; few = omega arith; out = sym (put_nil 0 out); contents = refl; state = refl })

  pub end_line : 290 ≤ length out → {last : Next} → last ≡ last_of carry → {r : ℕ} {after : List ℕ} {c' : Contents} {st' : State}
      → Prints (answer_lines x st c (lines_given last)) 0 out r after c' st' → Prints (answer_lines x st c (at_end carry out)) 0 out r after c' st'
  end_line h e p = rw (le-leb 290 (length out) h, ← e) p
