use Rattle.std.proofs.Common.{◌≡◌, refl, lit<, Some}
use Rattle.gt_model.specs.declared.script.Instr.{Instr}
use Rattle.gt_examples.proofs.enters_a_loop_without_passes.Goals as goal

pub returns : goal.returns
returns c = ((record { ending = refl; room = lit< tt }, record { stands = refl; calm = refl }), (λ h. let at : Some (Instr.Say 3) ≡ Some (Instr.Say 2) = h.1.stands in cc))
