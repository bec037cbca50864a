use Rattle.std.proofs.Common.{sym, subst}
use Rattle.gt_select.specs.Waiting.{Waiting, MayWait}
use Rattle.gt_schedule.specs.Schedule.{at_case}
use Rattle.gt_schedule.specs.Scheduler.{IsScheduler}
use Rattle.gt_schedule.proofs.Keeping.{may-wait, kept-enrolled}
use Rattle.gt_schedule.proofs.scheduler.Scheduler.enrol.Goals as goal

pub returns-clause-may : goal.returns-clause-may
returns-clause-may c k few =
    subst (λ (w : Waiting). MayWait w (at_case c.args.g k)) (sym c.enrol.ensures.waiters) (may-wait c.args.self.now.waiters c.args.g k c.lawful.ensures c.requires.may few)

pub returns-clause-kept : goal.returns-clause-kept
returns-clause-kept c =
    let m = c.args.self.now in
    subst (λ (w : Waiting). IsScheduler (record m { waiters = w })) (sym c.enrol.ensures.waiters) (kept-enrolled m c.args.g c.requires.kept c.requires.parked)
