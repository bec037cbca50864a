use Rattle.std.proofs.Common.{refl, lit<}
use Rattle.gt_examples.proofs.panics_without_a_period.Goals as goal

pub returns-clause-history : goal.returns-clause-history
returns-clause-history c = record {
  legal = ((record { ending = refl; room = lit< tt }, refl), (refl, tt));
  over = refl;
}

pub returns-clause-jumps : goal.returns-clause-jumps
returns-clause-jumps c = (tt, (tt, tt))
