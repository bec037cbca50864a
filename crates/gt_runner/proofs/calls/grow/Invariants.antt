use Rattle.std.proofs.Common.{length, ◌+◌, ◌-◌}
use Rattle.gt_runner.specs.Served.{IsServed}
use Rattle.gt_runner.specs.Calls.{Grows}
use Rattle.gt_runner.proofs.calls.grow.Given as goal

abbrev pub invariant-loop-run : goal.invariant-loop-run
invariant-loop-run l = IsServed l.run × Grows l.fn.run l.run

abbrev pub decreases-loop-run : goal.decreases-loop-run
decreases-loop-run l = l.fn.id + 1 - length l.run.records.items
