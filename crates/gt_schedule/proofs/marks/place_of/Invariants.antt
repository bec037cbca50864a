use Rattle.gt_schedule.proofs.Marked.{IsBehind}
use Rattle.gt_schedule.proofs.marks.place_of.Given as goal

-- the number is not among those so far
abbrev pub invariant-loop-place : goal.invariant-loop-place
invariant-loop-place l = IsBehind l.t l.timers l.place
