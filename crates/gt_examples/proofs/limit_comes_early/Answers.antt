use Rattle.std.proofs.Common.{refl, lit<}
use Rattle.gt_examples.proofs.limit_comes_early.Goals as goal

pub returns : goal.returns
returns c = ((record { ending = refl; room = lit< tt }, record { stands = refl; calm = refl }), (λ h. cc h.1))
