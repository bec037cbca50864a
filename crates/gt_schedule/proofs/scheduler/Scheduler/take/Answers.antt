use Rattle.std.proofs.Common.{◌≡◌, Some, refl, ap, sym, length, ◌∙◌, arith}
use Rattle.std.proofs.lemmas.List.{length-set}
use Rattle.gt_schedule.specs.declared.status.RunStatus.{RunStatus}
use Rattle.gt_schedule.specs.Schedule.{status_of}
use Rattle.gt_schedule.specs.Scheduler.{schedule_of}
use Rattle.gt_schedule.proofs.Counting.{room-marks, kept-marks, own-unparked}
use Rattle.gt_schedule.proofs.Moving.{first-queued}
use Rattle.gt_schedule.proofs.scheduler.Scheduler.take.Goals as goal

pub returns-clause-room : goal.returns-clause-room
returns-clause-room c = room-marks c.args.self.now.statuses c.mark.new.statuses c.in_ok-g.g RunStatus.InHand c.mark.ensures.items c.mark.ensures.spare

pub returns-clause-kept : goal.returns-clause-kept
returns-clause-kept c =
    let m = c.args.self.now in
    let g = c.in_ok-g.g in
    let is : status_of (schedule_of m) g ≡ Some RunStatus.Queued = first-queued (schedule_of m) g c.requires.queued (sym c.dequeue.ensures.first ∙ c.in_ok-g.was) in
    kept-marks m _ g RunStatus.Queued RunStatus.InHand (record {
      at = is;
      items = c.mark.ensures.items;
      spare = c.mark.ensures.spare;
      members = c.dequeue.ensures.members;
      queues = ap length c.dequeue.ensures.queues ∙ length-set m.run_queue.queues 0 _;
      goroutines = refl;
      lists = refl;
      tickets = λ h has. has;
      own = own-unparked m g RunStatus.Queued RunStatus.InHand c.requires.kept.tickets is refl;
      declared = refl;
      running = omega arith;
      parks = λ h. h;
      marks = λ i. m.marks;
    }) c.requires.kept
