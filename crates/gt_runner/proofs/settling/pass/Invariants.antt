use Rattle.std.proofs.Common.{◌≡◌}
use Rattle.gt_lazy.specs.Slots.{unscanned_count}
use Rattle.gt_runner.specs.Served.{IsTended}
use Rattle.gt_runner.specs.Settled.{ScannedAreSettled}
use Rattle.gt_runner.proofs.settling.pass.Given as goal

abbrev pub invariant-loop-place : goal.invariant-loop-place
invariant-loop-place l = IsTended l.run × (l.run.book ≡ l.fn.run.book) × ScannedAreSettled l.run

abbrev pub decreases-loop-place : goal.decreases-loop-place
decreases-loop-place l = unscanned_count l.run.heap.slots
