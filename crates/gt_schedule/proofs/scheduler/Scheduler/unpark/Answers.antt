use Rattle.std.proofs.Common.{◌∙◌, IsSome, refl, ap, subst, length}
use Rattle.std.proofs.lemmas.List.{length-set, length-map}
use Rattle.gt_select.specs.Waiting.{Waiting, ticket_of}
use Rattle.gt_schedule.specs.declared.status.RunStatus.{RunStatus}
use Rattle.gt_schedule.specs.Schedule.{status_of, without_goroutine}
use Rattle.gt_schedule.specs.Scheduler.{schedule_of}
use Rattle.gt_schedule.proofs.Counting.{status-parked, room-marks, kept-marks}
use Rattle.gt_schedule.proofs.Keeping.{free-unqueued, parked-unqueued, unparked-is, gone-tickets, gone-own}
use Rattle.gt_schedule.proofs.scheduler.Scheduler.unpark.Goals as goal

pub enqueue-requires-clause-free : goal.enqueue-requires-clause-free
enqueue-requires-clause-free c =
    let m = c.args.self.now in
    free-unqueued m c.args.g c.requires.kept c.requires.queued (parked-unqueued (status_of (schedule_of m) c.args.g) c.requires.parked)

pub returns-clause-schedule : goal.returns-clause-schedule
returns-clause-schedule c =
    unparked-is c.args.self.now c.mark.new.statuses c.enqueue.new.self c.let_go.new.waiters c.args.g c.requires.kept c.mark.ensures.items c.enqueue.ensures.queues c.let_go.ensures

pub returns-clause-room : goal.returns-clause-room
returns-clause-room c = room-marks c.args.self.now.statuses c.mark.new.statuses c.args.g RunStatus.Queued c.mark.ensures.items c.mark.ensures.spare

pub returns-clause-kept : goal.returns-clause-kept
returns-clause-kept c =
    let m = c.args.self.now in
    let g = c.args.g in
    let parking = status-parked (status_of (schedule_of m) g) c.requires.parked in
    kept-marks m _ g (RunStatus.Parked parking.since) RunStatus.Queued (record {
      at = parking.is;
      items = c.mark.ensures.items;
      spare = c.mark.ensures.spare;
      members = c.enqueue.ensures.members;
      queues = ap length c.enqueue.ensures.queues ∙ length-set m.run_queue.queues 0 _;
      goroutines = ap (λ (w : Waiting). w.goroutines) c.let_go.ensures;
      lists = ap (λ (w : Waiting). length w.lists) c.let_go.ensures ∙ length-map m.waiters.lists (without_goroutine g);
      tickets = λ h has. gone-tickets m.waiters g h (subst (λ (w : Waiting). IsSome (ticket_of w h)) c.let_go.ensures has);
      own = λ has. absurd (gone-own m.waiters g (subst (λ (w : Waiting). IsSome (ticket_of w g)) c.let_go.ensures has));
      declared = refl;
      running = refl;
      parks = λ h. h;
      marks = refl;
    }) c.requires.kept
