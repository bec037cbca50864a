use Rattle.std.proofs.Common.{length, ◌+◌, ◌-◌}
use Rattle.gt_sched.proofs.Reading.{IsReading}
use Rattle.gt_sched.proofs.schedule.Schedule.read.Given as goal

abbrev pub invariant-loop-at : goal.invariant-loop-at
invariant-loop-at l = IsReading l.ps l.text l.at l.reading.turns.items l.reading.total

abbrev pub decreases-loop-at : goal.decreases-loop-at
decreases-loop-at l = length l.text + 1 - l.at
