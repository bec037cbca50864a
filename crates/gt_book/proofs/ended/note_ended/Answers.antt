use Rattle.std.proofs.Common.{◌<◌, ◌++◌, length, slice_index_or, subst, arith}
use Rattle.gt_machine.specs.Machine.{ended_of}
use Rattle.gt_schedule.specs.Scheduler.{schedule_of}
use Rattle.std.specs.BinaryHeap.{heap_items}
use Rattle.std.specs.List.Sorted.{IsPermutation}
use Rattle.gt_book.specs.Notes.{since_at, notes_by}
use Rattle.gt_book.proofs.Noting.{noted-next}
use Rattle.gt_book.proofs.ended.note_ended.Goals as goal

pub loop-k-preserved : goal.loop-k-preserved
loop-k-preserved c = record {
  noted = λ o.
      let within : c.loop-k.k < length (ended_of c.args.machine.now) = subst (λ xs. c.loop-k.k < length xs) c.ended-k-end.ensures c.loop-k-test.true in
      noted-next (schedule_of c.args.scheduler.now) (ended_of c.args.machine.now) c.loop-k.k _ _ o within (c.loop-k.invariant.noted o)
      (subst (λ xs. IsPermutation (notes_by (slice_index_or xs c.loop-k.k 0) (since_at (schedule_of c.args.scheduler.now) (slice_index_or xs c.loop-k.k 0)) ++ heap_items c.loop-k.waking)
      (heap_items c.note_waiting.new.waking)) c.ended.ensures c.note_waiting.ensures.noted);
  few = let so_far = c.loop-k.invariant.few in let more = c.note_waiting.ensures.few in omega arith;
  room = let so_far = c.loop-k.invariant.room in let more = c.note_waiting.ensures.room in omega arith;
}
