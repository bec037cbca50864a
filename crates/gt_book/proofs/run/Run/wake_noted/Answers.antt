use Rattle.std.proofs.Common.{subst, ◌++◌, ◌≤◌, ◌+◌}
use Rattle.std.specs.List.Sorted.{IsPermutation}
use Rattle.std.specs.BinaryHeap.{heap_items, heap_len, heap_capacity}
use Rattle.gt_schedule.specs.Scheduler.{schedule_of}
use Rattle.gt_book.specs.Notes.{Notes, since_at, notes_by}
use Rattle.gt_book.specs.Run.{CanMake}
use Rattle.gt_book.proofs.NotedRuns.{noting, noted-first, taken-can, taken-alone, taken-uncut, taken-lists, taken-more}
use Rattle.gt_book.proofs.Runs.{waking-less, none-due}
use Rattle.gt_book.proofs.run.Run.wake_noted.Goals as goal

pub loop-limits-init : goal.loop-limits-init
loop-limits-init c = noted-first c.args.script.now c.args.limits c.args.self.now c.requires

pub make-requires-clause-can : goal.make-requires-clause-can
make-requires-clause-can c = (
  c.args.limits,
  taken-can c.args.script.now c.args.limits c.args.self.now c.loop-limits.self c.loop-limits.invariant c.in-Some.x c.in-Some.entry c.take_next-next.new.waking
      c.in-Some.ensures.takes c.in-Some.ensures.room
      (none-due c.args.limits c.loop-limits.self c.due_outcome.result c.is_none.result c.due_outcome.ensures c.is_none.ensures c.loop-limits-test.true),
)

pub make-requires-clause-alone : goal.make-requires-clause-alone
make-requires-clause-alone c =
    taken-alone c.args.script.now c.args.limits c.args.self.now c.loop-limits.self c.loop-limits.invariant c.in-Some.x c.in-Some.entry c.take_next-next.new.waking
    c.in-Some.ensures.takes c.in-Some.ensures.room
    (none-due c.args.limits c.loop-limits.self c.due_outcome.result c.is_none.result c.due_outcome.ensures c.is_none.ensures c.loop-limits-test.true)

pub make-requires-clause-uncut : goal.make-requires-clause-uncut
make-requires-clause-uncut c =
    taken-uncut c.args.script.now c.args.limits c.args.self.now c.loop-limits.self c.loop-limits.invariant c.in-Some.x c.in-Some.entry c.take_next-next.new.waking
    c.in-Some.ensures.takes c.in-Some.ensures.room
    (none-due c.args.limits c.loop-limits.self c.due_outcome.result c.is_none.result c.due_outcome.ensures c.is_none.ensures c.loop-limits-test.true)

pub note_waiting-requires-clause-kept : goal.note_waiting-requires-clause-kept
note_waiting-requires-clause-kept c =
    let can : CanMake c.args.script.now c.args.limits (noting c.loop-limits.self c.take_next-next.new.waking) c.in-Some.entry =
    taken-can c.args.script.now c.args.limits c.args.self.now c.loop-limits.self c.loop-limits.invariant c.in-Some.x c.in-Some.entry c.take_next-next.new.waking
    c.in-Some.ensures.takes c.in-Some.ensures.room
    (none-due c.args.limits c.loop-limits.self c.due_outcome.result c.is_none.result c.due_outcome.ensures c.is_none.ensures c.loop-limits-test.true) in
    (c.make.ensures.makes c.args.limits can).kept.rooms.scheduler

pub note_waiting-requires-clause-declared : goal.note_waiting-requires-clause-declared
note_waiting-requires-clause-declared c =
    let can : CanMake c.args.script.now c.args.limits (noting c.loop-limits.self c.take_next-next.new.waking) c.in-Some.entry =
    taken-can c.args.script.now c.args.limits c.args.self.now c.loop-limits.self c.loop-limits.invariant c.in-Some.x c.in-Some.entry c.take_next-next.new.waking
    c.in-Some.ensures.takes c.in-Some.ensures.room
    (none-due c.args.limits c.loop-limits.self c.due_outcome.result c.is_none.result c.due_outcome.ensures c.is_none.ensures c.loop-limits-test.true) in
    (taken-lists c.args.script.now c.args.limits c.args.self.now c.loop-limits.self c.loop-limits.invariant c.in-Some.x c.in-Some.entry c.take_next-next.new.waking
    c.in-Some.ensures.takes c.in-Some.ensures.room
    (none-due c.args.limits c.loop-limits.self c.due_outcome.result c.is_none.result c.due_outcome.ensures c.is_none.ensures c.loop-limits-test.true)
    c.make.new.self (c.make.ensures.makes c.args.limits can)).receivers

pub loop-limits-smaller : goal.loop-limits-smaller
loop-limits-smaller c =
    let can : CanMake c.args.script.now c.args.limits (noting c.loop-limits.self c.take_next-next.new.waking) c.in-Some.entry =
    taken-can c.args.script.now c.args.limits c.args.self.now c.loop-limits.self c.loop-limits.invariant c.in-Some.x c.in-Some.entry c.take_next-next.new.waking
    c.in-Some.ensures.takes c.in-Some.ensures.room
    (none-due c.args.limits c.loop-limits.self c.due_outcome.result c.is_none.result c.due_outcome.ensures c.is_none.ensures c.loop-limits-test.true) in
    waking-less c.args.script.now c.args.limits (noting c.loop-limits.self c.take_next-next.new.waking) c.make.new.self c.in-Some.entry can (c.make.ensures.makes c.args.limits can)

pub loop-limits-preserved : goal.loop-limits-preserved
loop-limits-preserved c =
    let can : CanMake c.args.script.now c.args.limits (noting c.loop-limits.self c.take_next-next.new.waking) c.in-Some.entry =
    taken-can c.args.script.now c.args.limits c.args.self.now c.loop-limits.self c.loop-limits.invariant c.in-Some.x c.in-Some.entry c.take_next-next.new.waking
    c.in-Some.ensures.takes c.in-Some.ensures.room
    (none-due c.args.limits c.loop-limits.self c.due_outcome.result c.is_none.result c.due_outcome.ensures c.is_none.ensures c.loop-limits-test.true) in
    taken-more c.args.script.now c.args.limits c.args.self.now c.loop-limits.self c.loop-limits.invariant c.in-Some.x c.in-Some.entry c.take_next-next.new.waking
    c.in-Some.ensures.takes c.in-Some.ensures.room
    (none-due c.args.limits c.loop-limits.self c.due_outcome.result c.is_none.result c.due_outcome.ensures c.is_none.ensures c.loop-limits-test.true)
    c.make.new.self (c.make.ensures.makes c.args.limits can) c.note_waiting.new.waking
    (subst (λ (notes : Notes).
    IsPermutation (notes_by c.in-Some.x (since_at (schedule_of c.make.new.self.scheduler) c.in-Some.x) ++ heap_items notes) (heap_items c.note_waiting.new.waking)) c.make.ensures.noted
    c.note_waiting.ensures.noted)
    (subst (λ (notes : Notes). heap_len c.note_waiting.new.waking ≤ heap_len notes + 1) c.make.ensures.noted c.note_waiting.ensures.few)
    (subst (λ (notes : Notes). heap_capacity notes ≤ heap_capacity c.note_waiting.new.waking) c.make.ensures.noted c.note_waiting.ensures.room)
