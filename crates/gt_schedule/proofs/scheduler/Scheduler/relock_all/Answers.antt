use Rattle.std.proofs.Common.{◌≡◌, [], sym, ◌∙◌}
use Rattle.gt_schedule.specs.Schedule.{parties_at}
use Rattle.gt_schedule.specs.Scheduler.{schedule_of}
use Rattle.gt_schedule.proofs.Places.{first-nowhere}
use Rattle.gt_schedule.proofs.Relocked.{first-is, relocks-first, relocks-next, relocks-fewer, relocks-all, relocks-count}
use Rattle.gt_schedule.proofs.scheduler.Scheduler.relock_all.Goals as goal
use Rattle.gt_schedule.proofs.scheduler.Scheduler.relock_all.Goals.{In_default}

pub loop-p-init : goal.loop-p-init
loop-p-init c = relocks-first c.args.self.now c.args.k c.lawful.ensures c.requires.kept c.requires.cond c.requires.plain

pub relock-requires-clause-stands : goal.relock-requires-clause-stands
relock-requires-clause-stands c =
    (first-is c.loop-p.self c.args.k c.in-Some.p c.lawful-in-Some.ensures c.loop-p.invariant.cond c.loop-p.invariant.plain (sym c.in-Some.is ∙ c.first_receiver.ensures)).stands

pub loop-p-smaller : goal.loop-p-smaller
loop-p-smaller c =
    relocks-fewer c.loop-p.self c.relock.new.self c.args.k c.in-Some.p c.loop-p.invariant.cond
    (first-is c.loop-p.self c.args.k c.in-Some.p c.lawful-in-Some.ensures c.loop-p.invariant.cond c.loop-p.invariant.plain (sym c.in-Some.is ∙ c.first_receiver.ensures))
    c.relock.ensures.schedule

pub loop-p-preserved : goal.loop-p-preserved
loop-p-preserved c =
    relocks-next c.args.self.now c.loop-p.self c.relock.new.self c.args.k c.loop-p.count c.in-Some.p c.loop-p.invariant
    (first-is c.loop-p.self c.args.k c.in-Some.p c.lawful-in-Some.ensures c.loop-p.invariant.cond c.loop-p.invariant.plain (sym c.in-Some.is ∙ c.first_receiver.ensures))
    c.relock.ensures.schedule c.relock.ensures.room c.relock.ensures.kept

nobody-left : (c : In_default) → parties_at (schedule_of c.loop-p.self).receivers c.args.k ≡ []
nobody-left c = first-nowhere (parties_at (schedule_of c.loop-p.self).receivers c.args.k) (sym c.first_receiver.ensures ∙ c.in_default.is)

pub returns-clause-count : goal.returns-clause-count
returns-clause-count c = relocks-count c.args.self.now c.loop-p.self c.args.k c.loop-p.count c.loop-p.invariant (nobody-left c)

pub returns-clause-schedule : goal.returns-clause-schedule
returns-clause-schedule c = relocks-all c.args.self.now c.loop-p.self c.args.k c.loop-p.count c.loop-p.invariant (nobody-left c)
