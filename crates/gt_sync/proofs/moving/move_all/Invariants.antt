use Rattle.std.proofs.Common.{◌≡◌, length}
use Rattle.gt_queue.specs.Contents.{waiting_in}
use Rattle.gt_sync.proofs.Moves.{IsMoving}
use Rattle.gt_sync.proofs.moving.move_all.Given as goal

abbrev pub invariant-loop-member : goal.invariant-loop-member
invariant-loop-member l = record {
  moving : IsMoving l.fn.queues.queues l.queues.queues l.from l.to l.count l.queues.members;
  members : l.queues.members ≡ l.fn.queues.members;
}

abbrev pub decreases-loop-member : goal.decreases-loop-member
decreases-loop-member l = length (waiting_in l.queues.queues l.from)
