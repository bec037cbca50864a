use Rattle.std.proofs.Common.{◌≡◌, ℕ, refl, ap, lit<, lit≤, arith, unwrap_or, Option, Some}
use Rattle.gt_rules.specs.Legal.{sleep_end}
use Rattle.gt_examples.proofs.clock_before_sleep.Goals as goal

pub returns : goal.returns
returns c = (
  (record { ending = refl; room = lit< tt }, (lit< tt, lit≤ tt)),
  (λ h.
      let d : ℕ = h.1.0 in
      let is : d ≡ 5000000 = (cc h.1.1.stands) in
      let until : Some 5000000 ≡ sleep_end 5000000 5000000 = rw is at h.1.2 in
      let number : 5000000 ≡ 10000000 = ap (λ (o : Option ℕ). unwrap_or o 0) until in
      absurd (omega arith)),
)
