use Rattle.std.proofs.Common.{length}
use Rattle.gt_schedule.specs.Schedule.{parties_at}
use Rattle.gt_schedule.specs.Scheduler.{schedule_of}
use Rattle.gt_schedule.proofs.Relocked.{Relocks}
use Rattle.gt_schedule.proofs.scheduler.Scheduler.relock_all.Given as goal

abbrev pub invariant-loop-p : goal.invariant-loop-p
invariant-loop-p l = Relocks l.fn.self l.self l.k l.count

abbrev pub decreases-loop-p : goal.decreases-loop-p
decreases-loop-p l = length (parties_at (schedule_of l.self).receivers l.k)
