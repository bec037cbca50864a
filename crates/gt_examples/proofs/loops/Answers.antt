use Rattle.std.proofs.Common.{refl, lit<}
use Rattle.gt_examples.proofs.loops.Goals as goal

pub returns : goal.returns
returns c = record {
  legal = ((record { ending = refl; room = lit< tt }, record { stands = refl; calm = refl }), ((record { ending = refl; room = lit< tt }, record { stands = refl; calm = refl }), ((record { ending = refl; room = lit< tt }, record { stands = refl; calm = refl }), ((record { ending = refl; room = lit< tt }, record { stands = refl; calm = refl }), ((record { ending = refl; room = lit< tt }, record { stands = refl; calm = refl }), ((record { ending = refl; room = lit< tt }, record { stands = refl; calm = refl }), ((record { ending = refl; room = lit< tt }, record { stands = refl; calm = refl }), (refl, tt))))))));
  over = refl;
}
