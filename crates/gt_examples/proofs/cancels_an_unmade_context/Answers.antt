use Rattle.std.proofs.Common.{refl, lit<}
use Rattle.gt_rules.specs.Contexts.{line_of}
use Rattle.gt_examples.proofs.cancels_an_unmade_context.Goals as goal

pub returns-clause-history : goal.returns-clause-history
unfolding line_of
returns-clause-history c = record {
  legal = ((record { ending = refl; room = lit< tt }, refl), (refl, tt));
  over = refl;
}

pub returns-clause-jumps : goal.returns-clause-jumps
unfolding line_of
returns-clause-jumps c = (tt, (tt, tt))
