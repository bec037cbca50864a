use Rattle.gt_runner.specs.Run.{GoesOn, turn_left}
use Rattle.gt_runner.specs.Served.{IsServed}
use Rattle.gt_runner.proofs.run.run_goroutine.Given as goal

abbrev pub invariant-loop-run : goal.invariant-loop-run
invariant-loop-run l = GoesOn l.g l.fn.run.book l.run.book × IsServed l.run

abbrev pub decreases-loop-run : goal.decreases-loop-run
decreases-loop-run l = turn_left l.g l.run.book
