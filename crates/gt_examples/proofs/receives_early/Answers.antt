use Rattle.std.proofs.Common.{refl, lit<, ◌≤◌, arith}
use Rattle.gt_examples.proofs.receives_early.Goals as goal

pub returns : goal.returns
returns c = ((record { ending = refl; room = lit< tt }, (1000000, record { stands = refl; calm = refl }, refl)), (λ h. let time : 1000000 ≤ 0 = h.1.3 in absurd (omega arith)))
