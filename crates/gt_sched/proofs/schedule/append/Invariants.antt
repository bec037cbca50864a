use Rattle.std.proofs.Common.{◌≡◌, ◌+◌, ◌≤◌, ◌++◌, replicate}
use Rattle.std.specs.VecDeque.{deque_len, deque_capacity}
use Rattle.gt_sched.proofs.schedule.append.Given as goal

abbrev pub invariant-loop : goal.invariant-loop
invariant-loop l = record {
  added : l.turns.items ≡ l.initial.turns.items ++ replicate l.counter l.worker;
  room : deque_len l.turns + l.count ≤ deque_capacity l.turns + l.counter;
}
