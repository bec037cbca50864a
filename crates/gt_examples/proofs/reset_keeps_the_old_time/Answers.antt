use Rattle.std.proofs.Common.{refl, lit<, lit≤, arith, ℕ, ◌≡◌, ◌+◌, min}
use Rattle.gt_examples.proofs.reset_keeps_the_old_time.Goals as goal

pub returns : goal.returns
returns c = (
  (record { ending = refl; room = lit< tt }, (1000000, record { stands = refl; calm = refl }, refl)),
  (
    (record { ending = refl; room = lit< tt }, (5000000, record { stands = refl; calm = refl }, refl)),
    (
      (record { ending = refl; room = lit< tt }, (lit< tt, lit≤ tt)),
      (
        (record { ending = refl; room = lit< tt }, lit≤ tt),
        (λ h.
            let d : ℕ = h.1.0 in
            let is : d ≡ 10000000 = (cc h.1.1.stands) in
            let time : 1000000 ≡ min (5000000 + d) 9223372036854775807 = h.1.3 in
            absurd (omega arith)),
      ),
    ),
  ),
)
