use Rattle.std.proofs.Common.{refl, lit<, lit≤, ◌≡◌, ◌+◌, ◌*◌, min, arith}
use Rattle.gt_rules.specs.Legal.{IsNextTick}
use Rattle.gt_examples.proofs.ticker_drifts.Goals as goal

pub returns : goal.returns
returns c = ((record { ending = refl; room = lit< tt }, (10000000, record { stands = refl; calm = refl }, refl)), ((record { ending = refl; room = lit< tt }, (35000000, record { stands = refl; calm = refl }, refl)), ((record { ending = refl; room = lit< tt }, (lit< tt, lit≤ tt)), ((record { ending = refl; room = lit< tt }, lit≤ tt), (λ h. let tick : IsNextTick 35000000 10000000 10000000 45000000 = h.1.4 in let is : 45000000 ≡ min 9223372036854775807 (10000000 + tick.ticks * 10000000) = tick.is in absurd (omega arith))))))
