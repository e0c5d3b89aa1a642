use Rattle.std.proofs.Common.{◌≡◌, ◌+◌, ◌/◌, ◌≤◌, ◌++◌, length, take, drop}
use Rattle.std.specs.Slice.Iter.{chunks_exact_rest, chunks_exact_size}
use Rattle.std.specs.Iterator.Adapters.{enumerate_source, enumerate_count}
use Rattle.cmd_fields.specs.Commands.{pairs_of}
use Rattle.exec_store.specs.Storing.{masked, store_masked}
use Rattle.exec_store.proofs.put_masked.Given as goal

abbrev pub invariant-loop-i : goal.invariant-loop-i
invariant-loop-i l =
    record {
      can : (goal.iterator-loop-i).can_next l.i-iterator;
      finite : (goal.iterator-loop-i).is_finite l.i-iterator;
      two : chunks_exact_size (enumerate_source l.i-iterator) ≡ 2;
      size : length l.memory ≡ length l.initial.memory;
      fits : l.index + enumerate_count l.i-iterator + length (chunks_exact_rest (enumerate_source l.i-iterator)) / 2 ≤ length l.memory;
      left :
          store_masked (pairs_of l.pairs) l.index l.initial.memory
          ≡ take (l.index + enumerate_count l.i-iterator) l.memory
          ++ masked (pairs_of (chunks_exact_rest (enumerate_source l.i-iterator))) (drop (l.index + enumerate_count l.i-iterator) l.memory);
    }
