use Rattle.std.proofs.Common.{refl, lit<, Some}
use Rattle.gt_rules.specs.Contexts.{line_of}
use Rattle.gt_examples.proofs.cancels_twice.Goals as goal

pub returns-clause-history : goal.returns-clause-history
unfolding line_of
returns-clause-history c = record {
  legal = ((record { ending = refl; room = lit< tt }, (record { stands = refl; calm = refl }, refl)), ((record { ending = refl; room = lit< tt }, ((Some 0), record { stands = refl; calm = refl }, refl, refl)), ((record { ending = refl; room = lit< tt }, ((Some 1), record { stands = refl; calm = refl }, refl, refl)), ((record { ending = refl; room = lit< tt }, (record { stands = refl; calm = refl }, refl)), ((record { ending = refl; room = lit< tt }, (record { stands = refl; calm = refl }, refl)), ((record { ending = refl; room = lit< tt }, (record { stands = refl; calm = refl }, refl)), ((record { ending = refl; room = lit< tt }, record { stands = refl; calm = refl }), (refl, tt))))))));
  over = refl;
}

pub returns-clause-jumps : goal.returns-clause-jumps
unfolding line_of
returns-clause-jumps c = (tt, (tt, (tt, (tt, (tt, (tt, (tt, (tt, tt))))))))
