use Rattle.std.proofs.Common.{◌≡◌, ◌*◌, set}
use Rattle.gt_queue.specs.Contents.{waiting_in}
use Rattle.gt_select.specs.Kept.{without_run}
use Rattle.gt_select.proofs.nodes.leave_one.Given as goal

abbrev pub invariant-loop-case_no : goal.invariant-loop-case_no
invariant-loop-case_no l = record {
  queues : l.queues.queues ≡ set l.fn.queues.queues l.fn.queue (without_run (waiting_in l.fn.queues.queues l.fn.queue) (l.fn.key * 17) l.case_no);
  members : l.queues.members ≡ l.fn.queues.members;
}
