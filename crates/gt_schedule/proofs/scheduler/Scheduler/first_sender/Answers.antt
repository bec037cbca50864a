use Rattle.std.proofs.Common.{ap, sym, slice_get, ◌∙◌}
use Rattle.gt_schedule.proofs.Keeping.{parties-senders}
use Rattle.gt_schedule.proofs.scheduler.Scheduler.first_sender.Goals as goal

pub returns : goal.returns
returns c =
    let m = c.args.self.now in
    c.first.ensures.first ∙ ap (λ ps. slice_get ps 0) (sym (parties-senders m.declared m.waiters.lists c.args.c))
