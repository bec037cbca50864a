use Rattle.std.proofs.Common.{◌≡◌, refl, lit<, lit≤, arith}
use Rattle.gt_examples.proofs.looks_wrongly.Goals as goal

pub returns : goal.returns
returns c = (
  (record { ending = refl; room = lit< tt }, (5000000, record { stands = refl; calm = refl }, refl)),
  ((record { ending = refl; room = lit< tt }, (lit< tt, lit≤ tt)), ((record { ending = refl; room = lit< tt }, lit≤ tt), (λ h. let time : 5000001 ≡ 5000000 = h.1.1 in absurd (omega arith)))),
)
