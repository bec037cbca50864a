use Rattle.std.proofs.Common.{◌-◌, ◌^◌, Some, ap}
use Rattle.gt_dur.proofs.Sums.{min-mul_min}
use Rattle.gt_dur.proofs.pairs.amount.Goals as goal

pub returns : goal.returns
returns c =
    rw (← c.in_ok-scale.ensures, c.saturating_mul.ensures, c.value.ensures) (ap Some (min-mul_min _ _ (2 ^ 64 - 1)))
