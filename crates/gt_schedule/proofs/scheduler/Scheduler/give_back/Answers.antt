use Rattle.std.proofs.Common.{rules, ◌≡◌, ◌+◌, ◌∙◌, sym, subst, length}
use Rattle.gt_schedule.specs.Schedule.{Schedule}
use Rattle.gt_schedule.specs.Scheduler.{schedule_of}
use Rattle.gt_schedule.proofs.Back.{GivesBack, gives_back-next, gives_back-all}
use Rattle.gt_schedule.proofs.scheduler.Scheduler.give_back.Goals as goal

pub loop-place-preserved : goal.loop-place-preserved
loop-place-preserved c = record {
  gives = subst (λ (m : Schedule). GivesBack (schedule_of c.args.self.now) m (c.loop-place.place + 1)) (sym c.put_back.ensures.schedule)
      (gives_back-next (schedule_of c.args.self.now) (schedule_of c.loop-place.self) c.loop-place.place c.loop-place.invariant.gives);
  room = c.put_back.ensures.room ∙ c.loop-place.invariant.room;
  kept = c.put_back.ensures.kept;
}

pub returns-clause-schedule : goal.returns-clause-schedule
returns-clause-schedule c =
    let m : Schedule = schedule_of c.loop-place.self in
    let long : length m.statuses ≡ length (schedule_of c.args.self.now).statuses = c.loop-place.invariant.gives.long in
    let end : c.loop-place.place ≡ length (schedule_of c.args.self.now).statuses = search rules in
    gives_back-all (schedule_of c.args.self.now) m (subst (GivesBack (schedule_of c.args.self.now) m) (end ∙ sym long) c.loop-place.invariant.gives)
