use Rattle.std.proofs.Common.{◌+◌, ◌≤◌, length}
use Rattle.gt_leaf_tests.proofs.heap.filled.Given as goal

abbrev pub invariant-loop-key : goal.invariant-loop-key
invariant-loop-key g l = length l.pushed ≤ l.heap.spare + l.key-index
