use Rattle.std.proofs.Common.{◌<◌, refl, arith}
use Rattle.gt_schedule.specs.declared.status.RunStatus.{RunStatus}
use Rattle.gt_schedule.proofs.Counting.{running-some, room-marks, kept-marks}
use Rattle.gt_schedule.proofs.scheduler.Scheduler.park.Goals as goal

pub overflow_sub-self : goal.overflow_sub-self
overflow_sub-self c = running-some c.args.self.now c.args.g c.requires.kept c.requires.in_hand

pub returns-clause-room : goal.returns-clause-room
returns-clause-room c = room-marks c.args.self.now.statuses c.mark.new.statuses c.args.g (RunStatus.Parked c.args.self.now.parks) c.mark.ensures.items c.mark.ensures.spare

pub returns-clause-kept : goal.returns-clause-kept
returns-clause-kept c =
    let some : 0 < c.args.self.now.running = running-some c.args.self.now c.args.g c.requires.kept c.requires.in_hand in
    kept-marks c.args.self.now _ c.args.g RunStatus.InHand (RunStatus.Parked c.args.self.now.parks) (record {
      at = c.requires.in_hand;
      items = c.mark.ensures.items;
      spare = c.mark.ensures.spare;
      members = refl;
      queues = refl;
      goroutines = refl;
      lists = refl;
      tickets = λ h has. has;
      own = λ has. refl;
      declared = refl;
      running = omega arith;
      parks = λ h. omega arith;
      marks = refl;
    }) c.requires.kept
