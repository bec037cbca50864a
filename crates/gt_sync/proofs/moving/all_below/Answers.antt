use Rattle.std.proofs.Common.{◌∙◌, ap, set, ◌++◌, ◌∷◌, []}
use Rattle.gt_queue.specs.Contents.{waiting_in}
use Rattle.gt_sync.proofs.Moves.{range-is_free, range-pushed}
use Rattle.gt_sync.proofs.moving.all_below.Goals as goal

pub enqueue-requires-clause-free : goal.enqueue-requires-clause-free
enqueue-requires-clause-free c =
    rw c.loop-number.invariant.queues (range-is_free c.loop-number.number)

pub loop-number-preserved : goal.loop-number-preserved
loop-number-preserved c =
    let n = c.loop-number.number in
    record {
      queues =
          c.enqueue.ensures.queues
          ∙ ap (λ queues. set queues 0 (waiting_in queues 0 ++ n ∷ [])) c.loop-number.invariant.queues
          ∙ range-pushed n;
      members = cc;
    }
