use Rattle.gt_schedule.proofs.Marked.{without-none, without-found}
use Rattle.gt_schedule.proofs.marks.place_of.Goals as goal

pub returns-then-timers-place-clause-some : goal.returns-then-timers-place-clause-some
returns-then-timers-place-clause-some c =
    (c.loop-place-test.true, without-found c.args.t c.args.timers.now c.loop-place.place _ c.loop-place-test.true c.if-timers-place.true c.loop-place.invariant)

pub returns-clause-none : goal.returns-clause-none
returns-clause-none c none = without-none c.args.t c.args.timers.now c.loop-place.place c.loop-place-test.false c.loop-place.invariant
