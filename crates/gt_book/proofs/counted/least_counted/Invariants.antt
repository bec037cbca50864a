use Rattle.gt_machine.specs.Machine.{state_of}
use Rattle.gt_book.specs.Found.{IsLeastWith}
use Rattle.gt_book.proofs.counted.least_counted.Given as goal

abbrev pub invariant-loop-t : goal.invariant-loop-t
invariant-loop-t l = IsLeastWith l.script (state_of l.machine) l.t l.found
