use Rattle.std.proofs.Common.{refl, lit<, None}
use Rattle.gt_rules.specs.Contexts.{line_of}
use Rattle.gt_examples.proofs.chooses_an_end_at_another_case.Goals as goal

pub returns : goal.returns
unfolding line_of
returns c = ((record { ending = refl; room = lit< tt }, (record { stands = refl; calm = refl }, refl)), ((record { ending = refl; room = lit< tt }, record { stands = refl; calm = refl }), ((record { ending = refl; room = lit< tt }, (record { stands = refl; calm = refl }, refl)), ((record { ending = refl; room = lit< tt }, (None, record { stands = refl; calm = refl }, refl, refl)), (λ h. cc h.1.0.stands)))))
