use Rattle.std.proofs.Common.{ℕ, ◌≡◌, ◌≤◌, take}
use Rattle.std.specs.BinaryHeap.{heap_items, heap_len, heap_capacity}
use Rattle.gt_machine.specs.Machine.{ended_of}
use Rattle.gt_schedule.specs.Scheduler.{schedule_of}
use Rattle.gt_book.specs.Notes.{is_noted, is_waited_at}
use Rattle.gt_book.proofs.ended.note_ended.Given as goal

-- so far the first ones were noted
abbrev pub invariant-loop-k : goal.invariant-loop-k
invariant-loop-k l = record {
  noted : (o : ℕ) → is_noted (heap_items l.waking) o ≡ is_waited_at (schedule_of l.scheduler) (take l.k (ended_of l.machine)) o;
  few : heap_len l.waking ≤ l.k;
  room : heap_capacity l.fn.waking ≤ heap_capacity l.waking;
}
