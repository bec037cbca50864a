use Rattle.std.proofs.Common.{◌<◌, length, refl, sym, ap, subst, ◌∙◌, arith}
use Rattle.gt_select.specs.Waiting.{Waiting, MayEnrol, MayWait}
use Rattle.gt_schedule.specs.declared.status.RunStatus.{RunStatus}
use Rattle.gt_schedule.specs.Schedule.{Schedule, waiting_at, plainly, object_of}
use Rattle.gt_schedule.specs.Scheduler.{schedule_of}
use Rattle.gt_schedule.proofs.Keeping.{may-enrol, parked-now}
use Rattle.gt_schedule.proofs.scheduler.Scheduler.park_at.Goals as goal

pub enrol-requires-clause-parked : goal.enrol-requires-clause-parked
enrol-requires-clause-parked c = parked-now (schedule_of c.args.self.now) (schedule_of c.park.new.self) c.args.g c.requires.in_hand c.park.ensures.schedule

pub enrol-requires-clause-may : goal.enrol-requires-clause-may
enrol-requires-clause-may c =
    subst (λ (w : Waiting). MayEnrol w c.args.g) (sym c.park.ensures.waiters)
    (may-enrol c.args.self.now c.args.g RunStatus.InHand c.requires.kept c.requires.in_hand refl)

pub wait_at-requires-clause-declared : goal.wait_at-requires-clause-declared
wait_at-requires-clause-declared c =
    subst (λ (s : Schedule). object_of c.args.kind < length s.receivers) (sym (c.enrol.ensures.schedule ∙ c.park.ensures.schedule)) c.requires.declared

pub wait_at-requires-clause-may : goal.wait_at-requires-clause-may
wait_at-requires-clause-may c = subst (MayWait c.enrol.new.self.waiters) (sym c.plainly.ensures) (c.enrol.ensures.may 0 (omega arith))

pub returns-clause-schedule : goal.returns-clause-schedule
returns-clause-schedule c =
    let p = plainly c.args.g in
    c.wait_at.ensures.schedule
    ∙ (ap (λ q. waiting_at (schedule_of c.enrol.new.self) q c.args.kind) c.plainly.ensures
    ∙ ap (λ (s : Schedule). waiting_at s p c.args.kind) (c.enrol.ensures.schedule ∙ c.park.ensures.schedule))
