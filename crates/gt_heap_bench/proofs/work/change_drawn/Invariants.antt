use Rattle.std.proofs.Common.{◌≡◌, length}
use Rattle.gt_heap_bench.proofs.work.change_drawn.Given as goal

abbrev pub invariant-loop-call : goal.invariant-loop-call
invariant-loop-call g l = length l.heap.entries ≡ length l.initial.heap.entries
