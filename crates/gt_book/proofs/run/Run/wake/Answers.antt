use Rattle.std.proofs.Common.{◌≡◌, ◌∙◌, sym, Some, None}
use Rattle.gt_machine.specs.Machine.{state_of}
use Rattle.gt_machine.specs.Outcomes.{due_outcome}
use Rattle.gt_schedule.specs.Scheduler.{schedule_of}
use Rattle.gt_book.specs.Woken.{next_woken}
use Rattle.gt_book.specs.Run.{CanMake}
use Rattle.gt_book.proofs.Runs.{waking-first, waking-lists, waking-can, waking-alone, waking-uncut, waking-more, waking-less, wakes-none, wakes-due, none-due, some-due}
use Rattle.gt_book.proofs.run.Run.wake.Goals as goal

pub loop-limits-init : goal.loop-limits-init
loop-limits-init c = waking-first c.args.script.now c.args.limits c.args.self.now c.args.o c.requires

pub next_woken-requires-clause-kept : goal.next_woken-requires-clause-kept
next_woken-requires-clause-kept c = c.loop-limits.invariant.can.kept.rooms.scheduler

pub next_woken-requires-clause-receivers : goal.next_woken-requires-clause-receivers
next_woken-requires-clause-receivers c = (waking-lists c.args.script.now c.args.limits c.args.self.now c.loop-limits.self c.args.o c.loop-limits.invariant).receivers

pub next_woken-requires-clause-senders : goal.next_woken-requires-clause-senders
next_woken-requires-clause-senders c = (waking-lists c.args.script.now c.args.limits c.args.self.now c.loop-limits.self c.args.o c.loop-limits.invariant).senders

pub returns-in_default : goal.returns-in_default
returns-in_default c =
    wakes-none c.args.script.now c.args.limits c.args.self.now c.loop-limits.self c.args.o c.loop-limits.invariant (sym c.next_woken.ensures ∙ c.in_default.is)

pub make-requires-clause-can : goal.make-requires-clause-can
make-requires-clause-can c = (
  c.args.limits,
  waking-can c.args.script.now c.args.limits c.args.self.now c.loop-limits.self c.args.o c.in-Some.entry c.loop-limits.invariant (sym c.next_woken.ensures ∙ c.in-Some.is)
      (none-due c.args.limits c.loop-limits.self c.due_outcome.result c.is_none.result c.due_outcome.ensures c.is_none.ensures c.loop-limits-test.true),
)

pub make-requires-clause-alone : goal.make-requires-clause-alone
make-requires-clause-alone c =
    waking-alone c.args.script.now c.args.limits c.args.self.now c.loop-limits.self c.args.o c.in-Some.entry c.loop-limits.invariant (sym c.next_woken.ensures ∙ c.in-Some.is)
    (none-due c.args.limits c.loop-limits.self c.due_outcome.result c.is_none.result c.due_outcome.ensures c.is_none.ensures c.loop-limits-test.true)

pub make-requires-clause-uncut : goal.make-requires-clause-uncut
make-requires-clause-uncut c =
    waking-uncut c.args.script.now c.args.limits c.args.self.now c.loop-limits.self c.args.o c.in-Some.entry c.loop-limits.invariant (sym c.next_woken.ensures ∙ c.in-Some.is)
    (none-due c.args.limits c.loop-limits.self c.due_outcome.result c.is_none.result c.due_outcome.ensures c.is_none.ensures c.loop-limits-test.true)

pub loop-limits-smaller : goal.loop-limits-smaller
loop-limits-smaller c =
    let can : CanMake c.args.script.now c.args.limits c.loop-limits.self c.in-Some.entry =
    waking-can c.args.script.now c.args.limits c.args.self.now c.loop-limits.self c.args.o c.in-Some.entry c.loop-limits.invariant (sym c.next_woken.ensures ∙ c.in-Some.is)
    (none-due c.args.limits c.loop-limits.self c.due_outcome.result c.is_none.result c.due_outcome.ensures c.is_none.ensures c.loop-limits-test.true) in
    waking-less c.args.script.now c.args.limits c.loop-limits.self c.make.new.self c.in-Some.entry can (c.make.ensures.makes c.args.limits can)

pub loop-limits-preserved : goal.loop-limits-preserved
loop-limits-preserved c =
    let none : due_outcome c.args.limits (state_of c.loop-limits.self.machine) ≡ None =
    none-due c.args.limits c.loop-limits.self c.due_outcome.result c.is_none.result c.due_outcome.ensures c.is_none.ensures c.loop-limits-test.true in
    let next : next_woken c.args.script.now (state_of c.loop-limits.self.machine) (schedule_of c.loop-limits.self.scheduler) c.args.o ≡ Some c.in-Some.entry = sym c.next_woken.ensures ∙ c.in-Some.is in
    let can : CanMake c.args.script.now c.args.limits c.loop-limits.self c.in-Some.entry =
    waking-can c.args.script.now c.args.limits c.args.self.now c.loop-limits.self c.args.o c.in-Some.entry c.loop-limits.invariant next none in
    waking-more c.args.script.now c.args.limits c.args.self.now c.loop-limits.self c.args.o c.in-Some.entry c.loop-limits.invariant next none c.make.new.self (c.make.ensures.makes c.args.limits can)

pub returns : goal.returns
returns c =
    let due = some-due c.args.limits c.loop-limits.self c.due_outcome.result c.is_none.result c.due_outcome.ensures c.is_none.ensures c.loop-limits-test.false in
    wakes-due c.args.script.now c.args.limits c.args.self.now c.loop-limits.self c.args.o due.0 c.loop-limits.invariant due.1
