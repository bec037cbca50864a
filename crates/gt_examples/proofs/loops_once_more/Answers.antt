use Rattle.std.proofs.Common.{◌≡◌, refl, lit<, Some}
use Rattle.gt_model.specs.declared.script.Instr.{Instr}
use Rattle.gt_examples.proofs.loops_once_more.Goals as goal

pub returns : goal.returns
returns c = ((record { ending = refl; room = lit< tt }, record { stands = refl; calm = refl }), ((record { ending = refl; room = lit< tt }, record { stands = refl; calm = refl }), ((record { ending = refl; room = lit< tt }, record { stands = refl; calm = refl }), ((record { ending = refl; room = lit< tt }, record { stands = refl; calm = refl }), ((record { ending = refl; room = lit< tt }, record { stands = refl; calm = refl }), ((record { ending = refl; room = lit< tt }, record { stands = refl; calm = refl }), (λ h. let at : Some (Instr.Finish) ≡ Some (Instr.Say 1) = h.1.stands in cc)))))))
