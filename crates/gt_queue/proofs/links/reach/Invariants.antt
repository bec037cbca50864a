use Rattle.std.proofs.Common.{◌≡◌, ℕ, ◌+◌, List, length}
use Rattle.gt_queue.specs.Nodes.{nodes_of}
use Rattle.gt_queue.proofs.links.reach.Given as goal

abbrev pub invariant-loop-low : goal.invariant-loop-low
invariant-loop-low l = (length l.low.items + l.low.spare ≡ l.members) × ((high : List ℕ) → nodes_of l.members l.low.items high ≡ nodes_of l.members l.fn.low.items high)

abbrev pub decreases-loop-low : goal.decreases-loop-low
decreases-loop-low l = l.low.spare
