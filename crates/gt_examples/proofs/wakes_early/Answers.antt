use Rattle.std.proofs.Common.{◌≤◌, refl, lit<, arith}
use Rattle.gt_examples.proofs.wakes_early.Goals as goal

pub returns : goal.returns
returns c = ((record { ending = refl; room = lit< tt }, (5000000, record { stands = refl; calm = refl }, refl)), (λ h. let time : 5000000 ≤ 0 = h.1 in absurd (omega arith)))
