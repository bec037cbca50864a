use Rattle.std.proofs.Common.{◌≡◌, ◌+◌, length}
use Rattle.gt_heap_bench.proofs.work.push_drawn.Given as goal

abbrev pub invariant-loop-id : goal.invariant-loop-id
invariant-loop-id g l =
    (length l.heap.entries ≡ length l.initial.heap.entries + l.id)
    × (l.heap.spare + l.id ≡ l.initial.heap.spare)
