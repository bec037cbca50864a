use Rattle.gt_machine.specs.Machine.{state_of}
use Rattle.gt_schedule.specs.Scheduler.{schedule_of}
use Rattle.std.specs.BinaryHeap.{heap_items}
use Rattle.gt_book.specs.Notes.{AreNoted}
use Rattle.gt_book.proofs.Noting.{work_left}
use Rattle.gt_book.proofs.ended.take_next.Given as goal

abbrev pub invariant-loop-since : goal.invariant-loop-since
invariant-loop-since l = AreNoted l.script (state_of l.machine) (schedule_of l.scheduler) l.waking

abbrev pub decreases-loop-since : goal.decreases-loop-since
decreases-loop-since l = work_left (schedule_of l.scheduler) (heap_items l.waking)
