use Rattle.std.proofs.Common.{set, ap, ◌∙◌, ◌-◌}
use Rattle.gt_schedule.specs.Schedule.{without_first}
use Rattle.gt_schedule.specs.Scheduler.{schedule_of}
use Rattle.gt_schedule.proofs.Marked.{marks-changed, marked-from}
use Rattle.gt_schedule.proofs.scheduler.Scheduler.unmark_blocked.Goals as goal

pub returns-clause-schedule : goal.returns-clause-schedule
returns-clause-schedule c =
    let m = c.args.self.now in
    ap (λ xs. record (schedule_of m) { marks = xs }) (ap (set m.marks.items (c.args.g - 1)) c.remove.ensures
    ∙ marks-changed m.marks.items c.args.g (without_first c.args.t) c.at_mut.result.now (marked-from m.marks.items c.args.g c.args.t c.requires.marked) c.at_mut.ensures.value)
