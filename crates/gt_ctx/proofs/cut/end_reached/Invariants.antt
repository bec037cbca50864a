use Rattle.std.proofs.Common.{◌≡◌, ◌+◌, ◌≤◌, vec_len, vec_capacity}
use Rattle.gt_ctx.specs.Walk.{to_come}
use Rattle.gt_ctx.proofs.Walks.{IsWalking}
use Rattle.gt_ctx.proofs.Ended.{AreListed}
use Rattle.gt_ctx.proofs.cut.end_reached.Given as goal

abbrev pub invariant-loop-y : goal.invariant-loop-y
invariant-loop-y l = record {
  walk : IsWalking l.fn.contexts l.contexts l.children l.waiting l.x l.end l.stack.items l.found.items;
  room_left : vec_len l.stack + to_come l.children l.contexts ≤ vec_capacity l.stack;
  room_found : vec_len l.found + to_come l.waiting l.contexts ≤ vec_capacity l.found;
  same_left : vec_capacity l.stack ≡ vec_capacity l.fn.stack;
  listed : AreListed l.fn.contexts l.contexts l.ended.items;
  same_ended : vec_capacity l.ended ≡ vec_capacity l.fn.ended;
  same_found : vec_capacity l.found ≡ vec_capacity l.fn.found;
}

abbrev pub decreases-loop-y : goal.decreases-loop-y
decreases-loop-y l = vec_len l.stack + to_come l.children l.contexts
