use Rattle.std.proofs.Common.{refl, lit<}
use Rattle.gt_examples.proofs.deadlock_while_set.Goals as goal

pub returns : goal.returns
returns c = ((record { ending = refl; room = lit< tt }, (1000000, record { stands = refl; calm = refl }, refl)), ((record { ending = refl; room = lit< tt }, (5000000, record { stands = refl; calm = refl }, refl)), (λ h. cc h.2)))
