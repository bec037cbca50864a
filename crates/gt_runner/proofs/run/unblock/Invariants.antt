use Rattle.std.proofs.Common.{length}
use Rattle.gt_schedule.specs.Schedule.{marks_at}
use Rattle.gt_runner.specs.Serves.{IsTaken, ButMarks}
use Rattle.gt_runner.proofs.run.unblock.Given as goal

abbrev pub invariant-loop-t : goal.invariant-loop-t
invariant-loop-t l = IsTaken l.run l.fn.g × ButMarks l.fn.run.book l.run.book

abbrev pub decreases-loop-t : goal.decreases-loop-t
decreases-loop-t l = length (marks_at l.run.book.schedule l.fn.g)
