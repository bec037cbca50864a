use Rattle.std.proofs.Common.{◌-◌}
use Rattle.gt_book.proofs.NotedRuns.{WakingNoted}
use Rattle.gt_book.proofs.run.Run.wake_noted.Given as goal

abbrev pub invariant-loop-limits : goal.invariant-loop-limits
invariant-loop-limits l = WakingNoted l.script l.limits l.fn.self l.self

abbrev pub decreases-loop-limits : goal.decreases-loop-limits
decreases-loop-limits l = l.limits.entries - l.self.machine.entries
