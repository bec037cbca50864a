use Rattle.std.proofs.Common.{◌<◌, refl, arith}
use Rattle.gt_schedule.specs.declared.status.RunStatus.{RunStatus}
use Rattle.gt_schedule.proofs.Counting.{running-some, room-marks, kept-marks, own-unparked}
use Rattle.gt_schedule.proofs.scheduler.Scheduler.end.Goals as goal

pub overflow_sub-self : goal.overflow_sub-self
overflow_sub-self c = running-some c.args.self.now c.args.g c.requires.kept c.requires.in_hand

pub returns-clause-room : goal.returns-clause-room
returns-clause-room c = room-marks c.args.self.now.statuses c.mark.new.statuses c.args.g RunStatus.Ended c.mark.ensures.items c.mark.ensures.spare

pub returns-clause-kept : goal.returns-clause-kept
returns-clause-kept c =
    let some : 0 < c.args.self.now.running = running-some c.args.self.now c.args.g c.requires.kept c.requires.in_hand in
    kept-marks c.args.self.now _ c.args.g RunStatus.InHand RunStatus.Ended (record {
      at = c.requires.in_hand;
      items = c.mark.ensures.items;
      spare = c.mark.ensures.spare;
      members = refl;
      queues = refl;
      goroutines = refl;
      lists = refl;
      tickets = λ h has. has;
      own = own-unparked c.args.self.now c.args.g RunStatus.InHand RunStatus.Ended c.requires.kept.tickets c.requires.in_hand refl;
      declared = refl;
      running = omega arith;
      parks = λ h. h;
      marks = refl;
    }) c.requires.kept
