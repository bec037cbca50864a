use Rattle.std.proofs.Common.{◌≡◌, ◌<◌, Some, ap, sym, refl, length, ◌∙◌, arith}
use Rattle.std.proofs.lemmas.List.{length-set}
use Rattle.gt_schedule.specs.declared.status.RunStatus.{RunStatus}
use Rattle.gt_schedule.specs.Schedule.{status_of, is_queued}
use Rattle.gt_schedule.specs.Scheduler.{schedule_of}
use Rattle.gt_schedule.proofs.Back.{hand-status}
use Rattle.gt_schedule.proofs.Counting.{room-marks, kept-marks, running-some, own-unparked}
use Rattle.gt_schedule.proofs.Keeping.{free-unqueued}
use Rattle.gt_schedule.proofs.scheduler.Scheduler.put_back.Goals as goal

pub enqueue-requires-clause-free : goal.enqueue-requires-clause-free
enqueue-requires-clause-free c =
    let at : status_of (schedule_of c.args.self.now) c.args.g ≡ Some RunStatus.InHand =
    hand-status (status_of (schedule_of c.args.self.now) c.args.g) (sym c.is_in_hand.ensures ∙ c.if-is_in_hand.true) in
    free-unqueued c.args.self.now c.args.g c.requires.kept c.requires.orderly.queued (ap is_queued at)

pub overflow_sub-self : goal.overflow_sub-self
overflow_sub-self c =
    let at : status_of (schedule_of c.args.self.now) c.args.g ≡ Some RunStatus.InHand =
    hand-status (status_of (schedule_of c.args.self.now) c.args.g) (sym c.is_in_hand.ensures ∙ c.if-is_in_hand.true) in
    let some : 0 < c.args.self.now.running = running-some c.args.self.now c.args.g c.requires.kept at in
    omega arith

pub returns-then-is_in_hand-clause-room : goal.returns-then-is_in_hand-clause-room
returns-then-is_in_hand-clause-room c = room-marks c.args.self.now.statuses c.mark.new.statuses c.args.g RunStatus.Queued c.mark.ensures.items c.mark.ensures.spare

pub returns-then-is_in_hand-clause-kept : goal.returns-then-is_in_hand-clause-kept
returns-then-is_in_hand-clause-kept c =
    let m = c.args.self.now in
    let at : status_of (schedule_of m) c.args.g ≡ Some RunStatus.InHand =
    hand-status (status_of (schedule_of m) c.args.g) (sym c.is_in_hand.ensures ∙ c.if-is_in_hand.true) in
    let some : 0 < m.running = running-some m c.args.g c.requires.kept at in
    kept-marks m _ c.args.g RunStatus.InHand RunStatus.Queued (record {
      at = at;
      items = c.mark.ensures.items;
      spare = c.mark.ensures.spare;
      members = c.enqueue.ensures.members;
      queues = ap length c.enqueue.ensures.queues ∙ length-set m.run_queue.queues 0 _;
      goroutines = refl;
      lists = refl;
      tickets = λ h has. has;
      own = λ has. own-unparked m c.args.g RunStatus.InHand RunStatus.Queued c.requires.kept.tickets at refl has;
      declared = refl;
      running = omega arith;
      parks = λ h. h;
      marks = refl;
    }) c.requires.kept
