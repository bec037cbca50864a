use Rattle.std.proofs.Common.{length}
use Rattle.gt_queue.specs.Contents.{waiting_in}
use Rattle.gt_select.specs.Kept.{party_at, from_member}
use Rattle.gt_select.proofs.Others.{IsPassing}
use Rattle.gt_select.proofs.nodes.first_other.Given as goal

abbrev pub invariant-loop-next : goal.invariant-loop-next
invariant-loop-next l = IsPassing (party_at l.tickets) (waiting_in l.queues.queues l.queue) l.g l.next

abbrev pub decreases-loop-next : goal.decreases-loop-next
decreases-loop-next l = length (from_member (waiting_in l.queues.queues l.queue) l.next)
