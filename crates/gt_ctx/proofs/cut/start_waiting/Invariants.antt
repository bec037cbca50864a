use Rattle.std.proofs.Common.{◌≡◌, ◌+◌, ◌≤◌, ◌++◌, vec_len, vec_capacity}
use Rattle.std.specs.List.{sum_by}
use Rattle.gt_ctx.specs.Kept.{unstarted}
use Rattle.gt_ctx.proofs.Hooks.{HaveStarted, started_among}
use Rattle.gt_ctx.proofs.cut.start_waiting.Given as goal

abbrev pub invariant-loop-s : goal.invariant-loop-s
invariant-loop-s l = record {
  done : HaveStarted l.fn.hooks l.hooks l.found l.s-index;
  started : l.started.items ≡ l.fn.started.items ++ started_among l.fn.hooks l.found l.s-index;
  room : vec_len l.started + sum_by unstarted l.hooks ≤ vec_capacity l.started;
}
