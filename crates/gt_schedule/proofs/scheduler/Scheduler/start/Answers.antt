use Rattle.std.proofs.Common.{◌≡◌, ◌+◌, ◌++◌, ◌∷◌, [], None, length, ap, ◌∙◌}
use Rattle.std.proofs.lemmas.List.{length-set}
use Rattle.gt_model.proofs.Items.{numbered-next}
use Rattle.gt_schedule.specs.Schedule.{status_of, is_queued}
use Rattle.gt_schedule.specs.Scheduler.{schedule_of}
use Rattle.gt_schedule.proofs.Keeping.{free-unqueued, kept-new}
use Rattle.gt_schedule.proofs.scheduler.Scheduler.start.Goals as goal

pub enqueue-requires-clause-free : goal.enqueue-requires-clause-free
enqueue-requires-clause-free c =
    let m = c.args.self.now in
    let none : status_of (schedule_of m) (c.len.result + 1) ≡ None = numbered-next m.statuses.items (c.len.result + 1) (ap (λ k. k + 1) c.len.ensures) in
    free-unqueued m (c.len.result + 1) c.requires.kept c.requires.queued (ap is_queued none)

pub returns-clause-kept : goal.returns-clause-kept
returns-clause-kept c =
    let m = c.args.self.now in
    kept-new m c.put.new.self c.enqueue.new.self c.put-2.new.self c.requires.kept c.put.ensures.items c.put.ensures.spare (c.put-2.ensures.items ∙ ap (λ ts. m.marks.items ++ ts ∷ []) c.none.ensures) c.put-2.ensures.spare c.enqueue.ensures.members
    (ap length c.enqueue.ensures.queues ∙ length-set m.run_queue.queues 0 _)
