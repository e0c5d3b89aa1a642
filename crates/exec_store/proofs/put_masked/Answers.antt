-- `put_masked` meets its contract. The invariant: what is left of the pairs gives, on what is left of memory, the whole.
-- Assumes nothing.
use Rattle.std.proofs.Common.{rules, arith, sym, ap, ◌≡◌, ◌+◌, ◌++◌, ◌∙◌, length, length-append, add-zero, take, drop}
use lib.ListN.{length-set}
use Rattle.std.specs.Slice.Iter.{chunks_exact_rest}
use Rattle.std.specs.Iterator.Adapters.{enumerate_source, enumerate_count}
use Rattle.cmd_fields.specs.Commands.{pairs_of}
use Rattle.exec_store.specs.Storing.{masked}
use Rattle.exec_store.proofs.Laws.{masked-start, masked-not, masked-step, masked-end}
use Rattle.exec_store.proofs.put_masked.Goals as goal
use Rattle.exec_store.proofs.put_masked.Goals.{else-index-memory-via-then-index-memory+else-pairs-memory, else-index-memory-via-else-index-memory}

pub loop-i-init : goal.loop-i-init
loop-i-init c =
    let a = c.args in
    let rest : chunks_exact_rest (enumerate_source c.into_iter-i-iterator.result) ≡ a.pairs.now = cc in
    let none : enumerate_count c.into_iter-i-iterator.result ≡ 0 = cc in
    record {
      can = search rules;
      finite = search rules;
      two = search rules;
      size = search rules;
      fits = rw rest (omega arith);
      left = rw (rest, none, add-zero) (masked-start a.pairs.now a.memory.now a.index (omega arith));
    }

pub loop-i-preserved : goal.loop-i-preserved
loop-i-preserved c =
    let l = c.loop-i in
    let pair = c.in-Some.pair.now in
    let at = c.args.index + enumerate_count l.i-iterator in
    let rest = chunks_exact_rest (enumerate_source c.next.new.self) in
    let steps = c.in-Some.ensures.steps in
    let two : length pair ≡ 2 = steps.0.1.1 ∙ l.invariant.two in
    let long = ap length steps.0.1.0 ∙ length-append pair rest in
    let same = length-set l.memory (c.args.index + c.in-Some.i) c.mask_byte.result in
    let next : c.args.index + enumerate_count c.next.new.self ≡ at + 1 = omega arith in
    record {
      can = search rules;
      finite = search rules;
      two = search rules;
      size = same ∙ l.invariant.size;
      fits = omega arith;
      left =
          l.invariant.left
          ∙ ap (λ t. take at l.memory ++ masked (pairs_of t) (drop at l.memory)) steps.0.1.0
          ∙ rw (next, steps.1) (masked-step pair rest l.memory at c.mask_byte.result two (omega arith) (rw steps.1 at c.mask_byte.ensures));
    }

pub returns-in-None : goal.returns-in-None
returns-in-None c =
    let l = c.loop-i in
    let rest = chunks_exact_rest (enumerate_source l.i-iterator) in
    let none = c.in-None.ensures.steps.0.1.0 in
    sym (l.invariant.left ∙ masked-end rest l.memory _ (omega arith))

pub returns-else-index-memory : goal.returns-else-index-memory
returns-else-index-memory c =
    masked-not _ _ _ (elim c.else-index-memory.branch [ else-index-memory-via-then-index-memory+else-pairs-memory w ↦ omega arith | else-index-memory-via-else-index-memory w ↦ omega arith ])
