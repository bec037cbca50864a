use Rattle.std.proofs.Common.{refl, lit<}
use Rattle.gt_examples.proofs.Choices.{first-ready}
use Rattle.gt_examples.proofs.defaults_over_a_case.Goals as goal

-- the case of the choice gives the value that was sent
pub returns : goal.returns
returns c =
    ((record { ending = refl; room = lit< tt }, record { stands = refl; calm = refl }), ((record { ending = refl; room = lit< tt }, (record { stands = refl; calm = refl }, refl, lit< tt)), (λ h. first-ready _ _ 1 _ _ _ refl refl h.1)))
