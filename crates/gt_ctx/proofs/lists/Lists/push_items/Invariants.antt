use Rattle.std.proofs.Common.{◌≡◌, length, vec_capacity, vec_len, ◌++◌}
use Rattle.gt_ctx.specs.Links.{items_of, chain}
use Rattle.gt_ctx.proofs.Links.{IsAhead}
use Rattle.gt_ctx.proofs.lists.Lists.push_items.Given as goal

-- what is before the walk, with what was added, is the whole list
abbrev pub invariant-loop-next : goal.invariant-loop-next
invariant-loop-next l = record {
  ahead : IsAhead l.self-inside.nexts.items l.next l.out.items (l.fn.out.items ++ items_of l.self l.list) (vec_len l.out) (vec_capacity l.out);
  capacity : vec_capacity l.out ≡ vec_capacity l.fn.out;
}

abbrev pub decreases-loop-next : goal.decreases-loop-next
decreases-loop-next l = length (chain l.self-inside.nexts.items (length l.self-inside.nexts.items) l.next)
