use Rattle.std.proofs.Common.{◌≡◌}
use Rattle.gt_runner.specs.Served.{IsTended}
use Rattle.gt_runner.specs.Settled.{unfit_count}
use Rattle.gt_runner.proofs.settling.clean.Given as goal

abbrev pub invariant-loop-id : goal.invariant-loop-id
invariant-loop-id l = IsTended l.run × (l.run.book ≡ l.fn.run.book) × (l.run.noted ≡ l.fn.run.noted)

abbrev pub decreases-loop-id : goal.decreases-loop-id
decreases-loop-id l = unfit_count l.run
