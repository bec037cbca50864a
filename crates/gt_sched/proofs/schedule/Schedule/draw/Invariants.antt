use Rattle.std.proofs.Common.{◌≡◌, ◌+◌, ◌-◌, ◌≤◌, ◌<◌, ◌++◌}
use Rattle.std.specs.VecDeque.{deque_len, deque_capacity}
use Rattle.gt_sched.proofs.Drawing.{drawn_by}
use Rattle.gt_sched.proofs.schedule.Schedule.draw.Given as goal

abbrev pub invariant-loop : goal.invariant-loop
invariant-loop l = record {
  some : 0 < l.ps;
  drawn : l.self-inside.turns.items ++ drawn_by (l.turns - l.counter) l.ps l.generator
      ≡ l.initial.self-inside.turns.items ++ drawn_by l.turns l.ps l.initial.generator;
  room : deque_len l.self-inside.turns + l.turns ≤ deque_capacity l.self-inside.turns + l.counter;
}
