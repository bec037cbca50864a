use Rattle.std.proofs.Common.{◌≡◌, None}
use Rattle.gt_book.specs.View.{outcome_of}
use Rattle.gt_runner.specs.Run.{IsUnderWay, run_left}
use Rattle.gt_runner.specs.Served.{IsServed}
use Rattle.gt_runner.proofs.run.run_script.Given as goal

abbrev pub invariant-loop-run : goal.invariant-loop-run
invariant-loop-run l = IsUnderWay l.fn.script l.fn.limits l.run.book × (outcome_of l.run.book ≡ None → IsServed l.run)

abbrev pub decreases-loop-run : goal.decreases-loop-run
decreases-loop-run l = run_left l.run.book
