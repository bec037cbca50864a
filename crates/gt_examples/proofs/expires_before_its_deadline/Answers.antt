use Rattle.std.proofs.Common.{refl, lit<, lit≤}
use Rattle.gt_rules.specs.Contexts.{line_of}
use Rattle.gt_examples.proofs.expires_before_its_deadline.Goals as goal

pub returns : goal.returns
unfolding line_of
returns c = ((record { ending = refl; room = lit< tt }, (record { stands = refl; calm = refl }, refl)), ((record { ending = refl; room = lit< tt }, (record { stands = refl; calm = refl }, refl)), ((record { ending = refl; room = lit< tt }, (record { stands = refl; calm = refl }, refl)), ((record { ending = refl; room = lit< tt }, (record { stands = refl; calm = refl }, refl)), ((record { ending = refl; room = lit< tt }, (record { stands = refl; calm = refl }, refl)), ((record { ending = refl; room = lit< tt }, (5000000, record { stands = refl; calm = refl }, refl)), ((record { ending = refl; room = lit< tt }, (lit< tt, lit≤ tt)), ((record { ending = refl; room = lit< tt }, lit≤ tt), (λ h. cc h.1.0.0)))))))))
