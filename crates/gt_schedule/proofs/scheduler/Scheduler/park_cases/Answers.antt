use Rattle.std.proofs.Common.{◌<◌, length, refl, sym, ap, subst, ◌∙◌}
use Rattle.std.specs.List.{All}
use Rattle.gt_model.specs.declared.script.Case.{Case}
use Rattle.gt_select.specs.Waiting.{Waiting, MayEnrol}
use Rattle.gt_schedule.specs.declared.status.RunStatus.{RunStatus}
use Rattle.gt_schedule.specs.Schedule.{Schedule, waiting_at_cases, object_of}
use Rattle.gt_schedule.specs.Scheduler.{schedule_of}
use Rattle.gt_schedule.proofs.Keeping.{may-enrol, parked-now}
use Rattle.gt_schedule.proofs.scheduler.Scheduler.park_cases.Goals as goal

pub enrol-requires-clause-parked : goal.enrol-requires-clause-parked
enrol-requires-clause-parked c = parked-now (schedule_of c.args.self.now) (schedule_of c.park.new.self) c.args.g c.requires.in_hand c.park.ensures.schedule

pub enrol-requires-clause-may : goal.enrol-requires-clause-may
enrol-requires-clause-may c =
    subst (λ (w : Waiting). MayEnrol w c.args.g) (sym c.park.ensures.waiters)
    (may-enrol c.args.self.now c.args.g RunStatus.InHand c.requires.kept c.requires.in_hand refl)

pub wait_at_cases-requires-clause-declared : goal.wait_at_cases-requires-clause-declared
wait_at_cases-requires-clause-declared c =
    subst (λ (s : Schedule). All (λ (c : Case). object_of c.kind < length s.receivers) c.args.cases.now) (sym (c.enrol.ensures.schedule ∙ c.park.ensures.schedule)) c.requires.declared

pub returns-clause-schedule : goal.returns-clause-schedule
returns-clause-schedule c =
    c.wait_at_cases.ensures.schedule ∙ ap (λ (s : Schedule). waiting_at_cases s c.args.g 1 c.args.cases.now) (c.enrol.ensures.schedule ∙ c.park.ensures.schedule)
