use Rattle.std.proofs.Common.{◌≡◌, ◌*◌, map}
use Rattle.gt_select.specs.Kept.{without_run}
use Rattle.gt_select.proofs.nodes.leave_all.Given as goal

abbrev pub invariant-loop-case_no : goal.invariant-loop-case_no
invariant-loop-case_no l = record {
  queues : l.queues.queues ≡ map (λ waiting. without_run waiting (l.fn.key * 17) l.case_no) l.fn.queues.queues;
  members : l.queues.members ≡ l.fn.queues.members;
}
