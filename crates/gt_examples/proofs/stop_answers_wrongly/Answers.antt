use Rattle.std.proofs.Common.{refl, lit<, lit≤, ◌≡◌, Some, true, false}
use Rattle.gt_examples.proofs.stop_answers_wrongly.Goals as goal

pub returns : goal.returns
returns c = ((record { ending = refl; room = lit< tt }, (1000000, record { stands = refl; calm = refl }, refl)), ((record { ending = refl; room = lit< tt }, (5000000, record { stands = refl; calm = refl }, refl)), ((record { ending = refl; room = lit< tt }, (lit< tt, lit≤ tt)), ((record { ending = refl; room = lit< tt }, lit≤ tt), (λ h. let wrong : Some false ≡ Some true = h.1.1 in cc)))))
