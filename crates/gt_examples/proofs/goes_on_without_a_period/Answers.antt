use Rattle.gt_examples.proofs.goes_on_without_a_period.Goals as goal

pub returns : goal.returns
returns c = (λ h. cc h.1.1.calm)
