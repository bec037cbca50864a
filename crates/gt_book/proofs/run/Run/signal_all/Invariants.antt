use Rattle.std.proofs.Common.{length}
use Rattle.gt_schedule.specs.Schedule.{parties_at}
use Rattle.gt_schedule.specs.Scheduler.{schedule_of}
use Rattle.gt_book.proofs.Broadcasting.{Signalling}
use Rattle.gt_book.proofs.run.Run.signal_all.Given as goal

abbrev pub invariant-loop-p : goal.invariant-loop-p
invariant-loop-p l = Signalling l.script l.fn.self l.self l.k l.count

abbrev pub decreases-loop-p : goal.decreases-loop-p
decreases-loop-p l = length (parties_at (schedule_of l.self.scheduler).receivers l.k)
