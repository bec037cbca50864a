use Rattle.std.proofs.Common.{length}
use Rattle.gt_select.specs.Waiting.{parties_in}
use Rattle.gt_schedule.specs.Schedule.{is_later}
use Rattle.gt_schedule.specs.Scheduler.{schedule_of}
use Rattle.gt_schedule.proofs.Places.{Looks, up_to}
use Rattle.gt_schedule.proofs.scheduler.Scheduler.first_later.Given as goal

-- all behind the next one are later
abbrev pub invariant-loop-next : goal.invariant-loop-next
invariant-loop-next l = Looks (is_later (schedule_of l.self) l.g) (parties_in l.self.waiters.lists l.list) l.foremost l.next

abbrev pub decreases-loop-next : goal.decreases-loop-next
decreases-loop-next l = length (up_to (parties_in l.self.waiters.lists l.list) l.next)
