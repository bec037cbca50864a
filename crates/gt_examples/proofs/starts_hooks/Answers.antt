use Rattle.std.proofs.Common.{refl, lit<, None}
use Rattle.gt_rules.specs.Contexts.{line_of}
use Rattle.gt_examples.proofs.starts_hooks.Goals as goal

pub returns-clause-history : goal.returns-clause-history
unfolding line_of
returns-clause-history c = record {
  legal = ((record { ending = refl; room = lit< tt }, (record { stands = refl; calm = refl }, refl)), ((record { ending = refl; room = lit< tt }, (record { stands = refl; calm = refl }, refl)), ((record { ending = refl; room = lit< tt }, (record { stands = refl; calm = refl }, refl)), ((record { ending = refl; room = lit< tt }, (record { stands = refl; calm = refl }, refl)), ((record { ending = refl; room = lit< tt }, (None, record { stands = refl; calm = refl }, refl, refl)), ((record { ending = refl; room = lit< tt }, (record { stands = refl; calm = refl }, refl)), ((record { ending = refl; room = lit< tt }, (record { stands = refl; calm = refl }, refl)), ((record { ending = refl; room = lit< tt }, record { stands = refl; calm = refl }), ((record { ending = refl; room = lit< tt }, record { stands = refl; calm = refl }), ((record { ending = refl; room = lit< tt }, record { stands = refl; calm = refl }), ((record { ending = refl; room = lit< tt }, record { stands = refl; calm = refl }), ((record { ending = refl; room = lit< tt }, record { stands = refl; calm = refl }), (refl, tt)))))))))))));
  over = refl;
}

pub returns-clause-jumps : goal.returns-clause-jumps
unfolding line_of
returns-clause-jumps c = (tt, (tt, (tt, (tt, (tt, (tt, (tt, (tt, (tt, (tt, (tt, (tt, (tt, tt)))))))))))))
