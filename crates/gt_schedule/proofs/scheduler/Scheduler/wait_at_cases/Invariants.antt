use Rattle.std.proofs.Common.{◌≡◌, ◌+◌, ◌<◌, ◌≤◌, ℕ, length, drop, List}
use Rattle.gt_model.specs.declared.script.Case.{Case}
use Rattle.gt_select.specs.Waiting.{MayWait}
use Rattle.gt_schedule.specs.Schedule.{at_case, waiting_at_cases}
use Rattle.gt_schedule.specs.Scheduler.{schedule_of, capacity, IsScheduler}
use Rattle.gt_schedule.specs.declared.scheduler.Scheduler.{Scheduler}
use Rattle.gt_schedule.proofs.scheduler.Scheduler.wait_at_cases.Given as goal

-- it waits at the first k cases, and may wait at the others
pub record WaitsSoFar (first now : Scheduler) (g k : ℕ) (cases : List Case) : Type 0 where
  pub schedule : waiting_at_cases (schedule_of now) g (k + 1) (drop k cases) ≡ waiting_at_cases (schedule_of first) g 1 cases
  pub room : capacity now ≡ capacity first
  pub declared : length (schedule_of now).receivers ≡ length (schedule_of first).receivers
  pub may : (j : ℕ) → k < j → j ≤ 16 → MayWait now.waiters (at_case g j)
  pub kept : IsScheduler now

abbrev pub invariant-loop-k : goal.invariant-loop-k
invariant-loop-k l = WaitsSoFar l.fn.self l.self l.g l.k l.cases
