use Rattle.std.proofs.Common.{◌≡◌, ◌+◌, drop}
use Rattle.gt_machine.specs.Machine.{state_of}
use Rattle.gt_schedule.specs.Scheduler.{schedule_of}
use Rattle.gt_book.specs.Steps.{first_step}
use Rattle.gt_book.proofs.choices.first_step.Given as goal

-- none of the cases so far can go on
abbrev pub invariant-loop-k : goal.invariant-loop-k
invariant-loop-k l =
    first_step l.script (state_of l.machine) (schedule_of l.scheduler) l.g l.polling 1 l.cases
    ≡ first_step l.script (state_of l.machine) (schedule_of l.scheduler) l.g l.polling (l.k + 1) (drop l.k l.cases)
