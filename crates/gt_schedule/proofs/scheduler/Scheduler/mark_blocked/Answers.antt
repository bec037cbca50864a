use Rattle.std.proofs.Common.{◌++◌, ◌∷◌, [], set, ap, ◌∙◌, ◌-◌}
use Rattle.gt_schedule.specs.Scheduler.{schedule_of}
use Rattle.gt_schedule.proofs.Marked.{marks-changed, few-marks, numbered-from}
use Rattle.gt_schedule.proofs.scheduler.Scheduler.mark_blocked.Goals as goal

pub push-requires : goal.push-requires
push-requires c =
    let m = c.args.self.now in
    few-marks m.marks.items c.args.g c.at_mut.result.now (numbered-from m.statuses.items c.args.g c.requires.there) c.at_mut.ensures.value c.requires.room

pub returns-clause-schedule : goal.returns-clause-schedule
returns-clause-schedule c =
    let m = c.args.self.now in
    ap (λ xs. record (schedule_of m) { marks = xs }) (ap (set m.marks.items (c.args.g - 1)) c.push.ensures
    ∙ marks-changed m.marks.items c.args.g (λ ts. ts ++ c.args.t ∷ []) c.at_mut.result.now (numbered-from m.statuses.items c.args.g c.requires.there) c.at_mut.ensures.value)
