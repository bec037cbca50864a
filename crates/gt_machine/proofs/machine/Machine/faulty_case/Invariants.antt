use Rattle.std.proofs.Common.{◌≡◌, drop}
use Rattle.gt_machine.specs.Machine.{state_of, first_fault}
use Rattle.gt_machine.proofs.machine.Machine.faulty_case.Given as goal

-- none of the cases so far is faulty
abbrev pub invariant-loop-k : goal.invariant-loop-k
invariant-loop-k l = first_fault (state_of l.self) 0 l.cases ≡ first_fault (state_of l.self) l.k (drop l.k l.cases)
