-- What has been read lies in the room for it.
use Rattle.std.proofs.Common.{◌≤◌, length}
use Rattle.demo_vectors.proofs.read_input.Given as goal

abbrev pub invariant-loop : goal.invariant-loop
invariant-loop l = l.count ≤ length l.input
