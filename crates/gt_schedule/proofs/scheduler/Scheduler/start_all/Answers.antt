use Rattle.std.proofs.Common.{◌≡◌, ◌∙◌, arith}
use Rattle.gt_schedule.proofs.Begun.{begun-first, begun-next, begun-room, begun-all}
use Rattle.gt_schedule.proofs.scheduler.Scheduler.start_all.Goals as goal

pub loop-init : goal.loop-init
loop-init c = begun-first c.args.self.now c.requires.kept c.requires.queued

pub start-requires-clause-kept : goal.start-requires-clause-kept
start-requires-clause-kept c = c.loop.invariant.kept

pub start-requires-clause-queued : goal.start-requires-clause-queued
start-requires-clause-queued c = c.loop.invariant.queued

pub start-requires-clause-spare : goal.start-requires-clause-spare
start-requires-clause-spare c = begun-room c.args.self.now c.loop.self c.loop.counter c.args.count c.loop.invariant c.loop-test.true c.requires.spare

pub loop-preserved : goal.loop-preserved
loop-preserved c = begun-next c.args.self.now c.loop.self c.start.new.self c.loop.counter c.loop.invariant c.start.ensures.schedule c.start.ensures.room c.start.ensures.kept

pub returns-clause-schedule : goal.returns-clause-schedule
returns-clause-schedule c starts as_many =
    let end : c.loop.counter ≡ c.args.count = omega (arith, c.loop.auto.counter-end, c.loop-test.false) in
    begun-all c.args.self.now c.loop.self c.loop.counter starts c.loop.invariant (end ∙ as_many)

pub returns-clause-room : goal.returns-clause-room
returns-clause-room c = c.loop.invariant.room

pub returns-clause-kept : goal.returns-clause-kept
returns-clause-kept c = c.loop.invariant.kept
