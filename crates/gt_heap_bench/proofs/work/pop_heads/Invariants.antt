use Rattle.std.proofs.Common.{◌≡◌, ◌+◌, length}
use Rattle.gt_heap_bench.proofs.work.pop_heads.Given as goal

abbrev pub invariant-loop-call : goal.invariant-loop-call
invariant-loop-call g l = length l.heap.entries + l.call ≡ length l.initial.heap.entries
