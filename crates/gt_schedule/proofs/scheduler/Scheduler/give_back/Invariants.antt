use Rattle.std.proofs.Common.{◌≡◌, ℕ}
use Rattle.gt_schedule.specs.Scheduler.{schedule_of, capacity, IsScheduler}
use Rattle.gt_schedule.specs.declared.scheduler.Scheduler.{Scheduler}
use Rattle.gt_schedule.proofs.Back.{GivesBack}
use Rattle.gt_schedule.proofs.scheduler.Scheduler.give_back.Given as goal

pub record HasGiven (first now : Scheduler) (n : ℕ) : Type 0 where
  pub gives : GivesBack (schedule_of first) (schedule_of now) n
  pub room : capacity now ≡ capacity first
  pub kept : IsScheduler now

abbrev pub invariant-loop-place : goal.invariant-loop-place
invariant-loop-place l = HasGiven l.initial.self l.self l.place
