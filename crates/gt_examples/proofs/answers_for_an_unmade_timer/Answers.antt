use Rattle.gt_examples.proofs.answers_for_an_unmade_timer.Goals as goal

pub returns : goal.returns
returns c = (λ h. cc h.1.0.calm)
