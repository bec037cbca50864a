use Rattle.std.proofs.Common.{arith}
use Rattle.gt_queue.proofs.Changes.{Makes-alone}
use Rattle.gt_queue.proofs.queues.Queues.with_room.Goals as goal

pub invariant_of-result : goal.invariant_of-result
invariant_of-result c =
    (Makes-alone c.args.members c.args.queues c.in_ok-next.next c.in_ok-prev.prev (omega arith) c.in_ok-next.ensures c.in_ok-prev.ensures).linked

pub returns-clause-queues : goal.returns-clause-queues
returns-clause-queues c =
    (Makes-alone c.args.members c.args.queues c.in_ok-next.next c.in_ok-prev.prev (omega arith) c.in_ok-next.ensures c.in_ok-prev.ensures).shown
