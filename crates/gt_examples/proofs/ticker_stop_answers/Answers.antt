use Rattle.std.proofs.Common.{refl, lit<, ◌≡◌, None, Some, true}
use Rattle.gt_examples.proofs.ticker_stop_answers.Goals as goal

pub returns : goal.returns
returns c = ((record { ending = refl; room = lit< tt }, (10000000, record { stands = refl; calm = refl }, refl)), ((record { ending = refl; room = lit< tt }, (20000000, record { stands = refl; calm = refl }, refl, refl)), (λ h. let wrong : Some true ≡ None = h.1.1 in cc)))
