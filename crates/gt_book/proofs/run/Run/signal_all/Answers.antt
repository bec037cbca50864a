use Rattle.std.proofs.Common.{sym, ◌+◌, ◌<◌, ◌^◌, ◌∙◌, arith}
use Rattle.gt_schedule.specs.Schedule.{parties_at}
use Rattle.gt_schedule.specs.Scheduler.{schedule_of}
use Rattle.gt_schedule.proofs.Places.{first-nowhere}
use Rattle.gt_book.proofs.Broadcasting.{Next, signalling-first, signalling-cond, signalling-next, signalling-inside, signalling-few, signalling-less, signalling-more, signals-all}
use Rattle.gt_book.proofs.run.Run.signal_all.Goals as goal
use Rattle.gt_book.proofs.run.Run.signal_all.Goals.{After-relock-in-Some}

pub loop-p-init : goal.loop-p-init
loop-p-init c = signalling-first c.args.script.now c.args.self.now c.args.k c.requires

pub first_receiver-requires-clause-kept : goal.first_receiver-requires-clause-kept
first_receiver-requires-clause-kept c = c.loop-p.invariant.fit.kept

pub first_receiver-requires-clause-declared : goal.first_receiver-requires-clause-declared
first_receiver-requires-clause-declared c = (signalling-cond c.args.script.now c.args.self.now c.loop-p.self c.args.k c.loop-p.count c.loop-p.invariant).declared

pub relock-requires : goal.relock-requires
relock-requires c =
    let next = signalling-next c.args.script.now c.args.self.now c.loop-p.self c.args.k c.loop-p.count c.loop-p.invariant c.in-Some.p (sym c.in-Some.is ∙ c.first_receiver.ensures) in
    signalling-inside c.args.script.now c.args.self.now c.loop-p.self c.args.k c.loop-p.count c.loop-p.invariant c.in-Some.p next

pub relock-requires-in-Some-clause-kept : goal.relock-requires-in-Some-clause-kept
relock-requires-in-Some-clause-kept c = c.loop-p.invariant.fit.kept

pub relock-requires-in-Some-clause-cond : goal.relock-requires-in-Some-clause-cond
relock-requires-in-Some-clause-cond c = signalling-cond c.args.script.now c.args.self.now c.loop-p.self c.args.k c.loop-p.count c.loop-p.invariant

pub relock-requires-in-Some-clause-stands : goal.relock-requires-in-Some-clause-stands
relock-requires-in-Some-clause-stands c =
    (signalling-next c.args.script.now c.args.self.now c.loop-p.self c.args.k c.loop-p.count c.loop-p.invariant c.in-Some.p (sym c.in-Some.is ∙ c.first_receiver.ensures)).its.stands

next : (c : After-relock-in-Some) → Next c.loop-p.self c.args.k c.in-Some.p
next c = signalling-next c.args.script.now c.args.self.now c.loop-p.self c.args.k c.loop-p.count c.loop-p.invariant c.in-Some.p (sym c.in-Some.is ∙ c.first_receiver.ensures)

pub overflow_add-count : goal.overflow_add-count
overflow_add-count c =
    let few : c.loop-p.count + 1 < 2 ^ 32 =
    signalling-few c.args.script.now c.args.self.now c.loop-p.self c.args.k c.loop-p.count c.loop-p.invariant c.in-Some.p (next c) c.relock.new.self c.relock-in-Some.new.self
    c.relock.ensures.state c.relock-in-Some.ensures.schedule in
    omega arith

pub loop-p-smaller : goal.loop-p-smaller
loop-p-smaller c =
    signalling-less c.args.script.now c.args.self.now c.loop-p.self c.args.k c.loop-p.count c.loop-p.invariant c.in-Some.p (next c) c.relock.new.self c.relock-in-Some.new.self
    c.relock.ensures.state c.relock-in-Some.ensures.schedule

pub loop-p-preserved : goal.loop-p-preserved
loop-p-preserved c =
    signalling-more c.args.script.now c.args.self.now c.loop-p.self c.args.k c.loop-p.count c.loop-p.invariant c.in-Some.p (next c) c.relock.new.self c.relock-in-Some.new.self
    c.relock.ensures.state c.relock-in-Some.ensures.schedule c.relock.ensures.many c.relock.ensures.spare c.relock.ensures.channels c.relock.ensures.contexts c.relock-in-Some.ensures.room c.relock-in-Some.ensures.kept

pub returns : goal.returns
returns c =
    signals-all c.args.script.now c.args.self.now c.loop-p.self c.args.k c.loop-p.count c.loop-p.invariant
    (first-nowhere (parties_at (schedule_of c.loop-p.self.scheduler).receivers c.args.k) (sym c.first_receiver.ensures ∙ c.in_default.is))
