use Rattle.std.proofs.Common.{length}
use Rattle.gt_dur.proofs.Progress.{IsRead}
use Rattle.gt_dur.proofs.pairs.read_pairs.Given as goal

abbrev pub invariant-loop-rest : goal.invariant-loop-rest
invariant-loop-rest l = IsRead l.text l.rest l.total

abbrev pub decreases-loop-rest : goal.decreases-loop-rest
decreases-loop-rest l = length l.rest
