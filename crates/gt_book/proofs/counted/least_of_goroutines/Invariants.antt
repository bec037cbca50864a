use Rattle.gt_machine.specs.Machine.{state_of}
use Rattle.gt_book.specs.Found.{IsLeastBelow}
use Rattle.gt_book.proofs.counted.least_of_goroutines.Given as goal

abbrev pub invariant-loop-g : goal.invariant-loop-g
invariant-loop-g l = IsLeastBelow l.script (state_of l.machine) l.g l.found
