use Rattle.std.proofs.Common.{◌≡◌, arith}
use Rattle.gt_examples.proofs.skips_a_number.Goals as goal

pub returns : goal.returns
returns c = (λ h. let wrong : 3 ≡ 2 = h.1.1 in absurd (omega arith))
