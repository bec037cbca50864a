use Rattle.std.proofs.Common.{◌-◌}
use Rattle.gt_runner.proofs.Counting.{Counts}
use Rattle.gt_runner.proofs.calls.wait.Given as goal

abbrev pub invariant-loop-kind : goal.invariant-loop-kind
invariant-loop-kind l = Counts l.fn.run l.run l.ticket l.k

abbrev pub decreases-loop-kind : goal.decreases-loop-kind
decreases-loop-kind l = 16 - l.k
