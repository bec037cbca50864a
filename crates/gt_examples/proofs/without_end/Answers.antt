use Rattle.std.proofs.Common.{refl, lit<, lit≤}
use Rattle.gt_examples.proofs.without_end.Goals as goal

pub returns : goal.returns
returns c = (
  (record { ending = refl; room = lit< tt }, (5000000, record { stands = refl; calm = refl }, refl)),
  ((record { ending = refl; room = lit< tt }, (lit< tt, lit≤ tt)), ((record { ending = refl; room = lit< tt }, lit≤ tt), ((record { ending = refl; room = lit< tt }, (record { stands = refl; calm = refl }, refl)), ((record { ending = refl; room = lit< tt }, record { stands = refl; calm = refl }), refl)))),
)
