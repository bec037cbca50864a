use Rattle.std.proofs.Common.{refl, lit<, Some}
use Rattle.gt_rules.specs.Contexts.{line_of}
use Rattle.gt_examples.proofs.ends_a_context_twice.Goals as goal

pub returns : goal.returns
unfolding line_of
returns c = ((record { ending = refl; room = lit< tt }, (record { stands = refl; calm = refl }, refl)), ((record { ending = refl; room = lit< tt }, ((Some 0), record { stands = refl; calm = refl }, refl, refl)), (λ h. cc h.1.2)))
