use Rattle.std.proofs.Common.{refl, lit<, arith}
use Rattle.gt_examples.proofs.passes_its_limit.Goals as goal

pub returns : goal.returns
returns c = ((record { ending = refl; room = lit< tt }, record { stands = refl; calm = refl }), ((record { ending = refl; room = lit< tt }, record { stands = refl; calm = refl }), (λ h. let room = h.0.room in omega arith)))
