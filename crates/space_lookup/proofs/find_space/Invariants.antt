use Rattle.std.proofs.Common.{◌≡◌}
use Rattle.std.specs.Slice.Iter.{chunks_exact_rest, chunks_exact_size}
use Rattle.space_table.specs.Table.{spaces_in}
use Rattle.space_lookup.specs.Description.{find_space}
use Rattle.space_lookup.proofs.find_space.Given as goal

abbrev pub invariant-loop-row : goal.invariant-loop-row
invariant-loop-row l =
    record {
      can : (goal.iterator-loop-row).can_next l.row-iterator;
      finite : (goal.iterator-loop-row).is_finite l.row-iterator;
      size : chunks_exact_size l.row-iterator ≡ 16;
      left : find_space (spaces_in l.spaces) l.number ≡ find_space (spaces_in (chunks_exact_rest l.row-iterator)) l.number;
    }
