use Rattle.std.proofs.Common.{ap, sym, slice_get, ◌∙◌}
use Rattle.gt_schedule.proofs.Keeping.{parties-receivers, names-receivers}
use Rattle.gt_schedule.proofs.scheduler.Scheduler.first_receiver.Goals as goal

pub returns : goal.returns
returns c =
    let m = c.args.self.now in
    c.first.ensures.first ∙ ap (λ ps. slice_get ps 0) (sym (parties-receivers m.declared m.waiters.lists c.args.t (names-receivers m c.args.t c.requires.declared)))
