use Rattle.gt_rules.specs.Contexts.{line_of}
use Rattle.gt_examples.proofs.goes_on_without_a_context.Goals as goal

pub returns : goal.returns
unfolding line_of
returns c = (λ h. cc h.1.1.calm)
