use Rattle.std.proofs.Common.{drop}
use Rattle.gt_machine.specs.Machine.{state_of}
use Rattle.gt_book.proofs.Finding.{LooksOn}
use Rattle.gt_book.proofs.counted.with_cases.Given as goal

-- the cases so far were looked at
abbrev pub invariant-loop-case : goal.invariant-loop-case
invariant-loop-case l = LooksOn (state_of l.machine) l.fn.found l.cases l.least (drop l.case-index l.cases)
