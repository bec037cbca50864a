use Rattle.std.proofs.Common.{◌≡◌, ◌+◌, drop}
use Rattle.gt_machine.specs.Machine.{state_of}
use Rattle.gt_book.specs.Woken.{first_alone}
use Rattle.gt_book.proofs.channels.first_alone.Given as goal

-- none of the cases so far can go on by itself
abbrev pub invariant-loop-k : goal.invariant-loop-k
invariant-loop-k l = first_alone l.script (state_of l.machine) l.g 1 l.cases ≡ first_alone l.script (state_of l.machine) l.g (l.k + 1) (drop l.k l.cases)
