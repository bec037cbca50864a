use Rattle.std.proofs.Common.{◌≡◌, ◌≤◌, ◌+◌, length, drop}
use Rattle.gt_rules.specs.Operations.{receives_from}
use Rattle.gt_book.specs.View.{first_case}
use Rattle.gt_book.proofs.channels.first_receiving.Given as goal

-- none of the cases so far receives from it
abbrev pub invariant-loop-k : goal.invariant-loop-k
invariant-loop-k l = (first_case (receives_from l.o) 1 l.cases ≡ first_case (receives_from l.o) (l.k + 1) (drop l.k l.cases)) × (l.k ≤ length l.cases)
