use Rattle.std.proofs.Common.{sym, ◌∙◌}
use Rattle.gt_schedule.proofs.Keeping.{gone-already}
use Rattle.gt_schedule.proofs.scheduler.let_go.Goals as goal

pub returns-in-Some : goal.returns-in-Some
returns-in-Some c = c.withdraw.ensures.live (sym c.ticket.ensures ∙ c.in-Some.is)

pub returns-in_default : goal.returns-in_default
returns-in_default c = gone-already c.args.waiters.now c.args.g c.lawful.ensures (sym c.ticket.ensures ∙ c.in_default.is)
