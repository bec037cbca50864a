use Rattle.std.proofs.Common.{sym, ap, subst, ◌∙◌}
use Rattle.gt_select.specs.Waiting.{Waiting, MayWait, joined}
use Rattle.gt_select.proofs.Callers.{MayWait-joined}
use Rattle.gt_schedule.specs.Scheduler.{IsScheduler}
use Rattle.gt_schedule.proofs.Keeping.{joined-is, kept-joined}
use Rattle.gt_schedule.proofs.scheduler.Scheduler.wait_at.Goals as goal

pub returns-clause-schedule : goal.returns-clause-schedule
returns-clause-schedule c =
    let m = c.args.self.now in
    joined-is m c.wait.new.self c.args.p c.args.kind c.requires.declared
    (c.wait.ensures ∙ ap (λ list. joined m.waiters list c.args.p) c.list_of-list.ensures.side)

pub returns-clause-may : goal.returns-clause-may
returns-clause-may c q other may =
    subst (λ (w : Waiting). MayWait w q) (sym c.wait.ensures) (MayWait-joined c.args.self.now.waiters c.list_of-list.result c.args.p q other may)

pub returns-clause-kept : goal.returns-clause-kept
returns-clause-kept c =
    let m = c.args.self.now in
    subst (λ (w : Waiting). IsScheduler (record m { waiters = w })) (sym c.wait.ensures) (kept-joined m c.list_of-list.result c.args.p c.requires.kept)
