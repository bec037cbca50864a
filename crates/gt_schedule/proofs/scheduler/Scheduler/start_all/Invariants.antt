use Rattle.gt_schedule.proofs.Begun.{HasBegun}
use Rattle.gt_schedule.proofs.scheduler.Scheduler.start_all.Given as goal

-- so many goroutines have begun
abbrev pub invariant-loop : goal.invariant-loop
invariant-loop l = HasBegun l.initial.self l.self l.counter
