use Rattle.std.proofs.Common.{◌∙◌, sym}
use Rattle.gt_machine.specs.Machine.{state_of}
use Rattle.gt_schedule.specs.Scheduler.{schedule_of}
use Rattle.gt_book.proofs.Noting.{left-less, left-again, noted-none, popped-lists, popped-takes, popped-none, popped-again}
use Rattle.gt_book.proofs.ended.take_next.Goals as goal

pub is_out_of_date-requires-clause-declared : goal.is_out_of_date-requires-clause-declared
is_out_of_date-requires-clause-declared c =
    (popped-lists c.args.script.now (state_of c.args.machine.now) (schedule_of c.args.scheduler.now) c.requires.good c.requires.formed c.requires.fits c.loop-since.waking c.pop.new.self
    c.in-Some.field-0 c.loop-since.invariant c.in-Some.ensures.permutation c.in-Some.ensures.len c.in-Some.ensures.capacity).receivers

pub loop-since-smaller-then-is_out_of_date : goal.loop-since-smaller-then-is_out_of_date
loop-since-smaller-then-is_out_of_date c = left-again (schedule_of c.args.scheduler.now) c.in-Some.field-0 _ _ _ c.in-Some.ensures.permutation (sym c.is_out_of_date.ensures ∙ c.if-is_out_of_date.true) c.note_waiting.ensures.noted

pub loop-since-preserved-then-is_out_of_date : goal.loop-since-preserved-then-is_out_of_date
loop-since-preserved-then-is_out_of_date c =
    popped-again c.args.script.now (state_of c.args.machine.now) (schedule_of c.args.scheduler.now) c.requires.good c.requires.formed c.requires.fits c.loop-since.waking c.pop.new.self
    c.in-Some.field-0 c.loop-since.invariant c.in-Some.ensures.permutation c.in-Some.ensures.len c.in-Some.ensures.capacity
    c.note_waiting.new.waking c.note_waiting.ensures.noted c.note_waiting.ensures.few c.note_waiting.ensures.room

pub next_woken-requires-clause-receivers : goal.next_woken-requires-clause-receivers
next_woken-requires-clause-receivers c =
    (popped-lists c.args.script.now (state_of c.args.machine.now) (schedule_of c.args.scheduler.now) c.requires.good c.requires.formed c.requires.fits c.loop-since.waking c.pop.new.self
    c.in-Some.field-0 c.loop-since.invariant c.in-Some.ensures.permutation c.in-Some.ensures.len c.in-Some.ensures.capacity).receivers

pub next_woken-requires-clause-senders : goal.next_woken-requires-clause-senders
next_woken-requires-clause-senders c =
    (popped-lists c.args.script.now (state_of c.args.machine.now) (schedule_of c.args.scheduler.now) c.requires.good c.requires.formed c.requires.fits c.loop-since.waking c.pop.new.self
    c.in-Some.field-0 c.loop-since.invariant c.in-Some.ensures.permutation c.in-Some.ensures.len c.in-Some.ensures.capacity).senders

pub returns-in-Some-next_woken-clause-takes : goal.returns-in-Some-next_woken-clause-takes
returns-in-Some-next_woken-clause-takes c =
    popped-takes c.args.script.now (state_of c.args.machine.now) (schedule_of c.args.scheduler.now) c.requires.good c.requires.formed c.requires.fits c.loop-since.waking c.pop.new.self
    c.in-Some.field-0 c.loop-since.invariant c.in-Some.ensures.permutation c.in-Some.ensures.len c.in-Some.ensures.capacity
    c.in-Some-next_woken.entry (sym c.next_woken.ensures ∙ c.in-Some-next_woken.is)

pub loop-since-smaller : goal.loop-since-smaller
loop-since-smaller c = left-less (schedule_of c.args.scheduler.now) c.in-Some.field-0 _ _ c.in-Some.ensures.permutation

pub loop-since-preserved : goal.loop-since-preserved
loop-since-preserved c =
    popped-none c.args.script.now (state_of c.args.machine.now) (schedule_of c.args.scheduler.now) c.requires.good c.requires.formed c.requires.fits c.loop-since.waking c.pop.new.self
    c.in-Some.field-0 c.loop-since.invariant c.in-Some.ensures.permutation c.in-Some.ensures.len c.in-Some.ensures.capacity
    (sym c.next_woken.ensures ∙ c.in_default-next_woken.is)

pub returns-clause-none : goal.returns-clause-none
returns-clause-none c =
    noted-none c.args.script.now (state_of c.args.machine.now) (schedule_of c.args.scheduler.now) c.requires.good c.requires.formed c.requires.fits c.loop-since.waking c.loop-since.invariant
    c.in_default.ensures.none
