use Rattle.std.proofs.Common.{◌≡◌, [], ◌∷◌, Some, refl}
use Rattle.gt_model.specs.declared.script.Instr.{Instr}
use Rattle.gt_model.specs.declared.entry.Entry.{Entry}
use Rattle.gt_laws.proofs.a_third_pass_breaks_the_law.Goals as goal

pub returns-clause-one_pass : goal.returns-clause-one_pass
returns-clause-one_pass c = λ h. cc (h (Entry.Say 1 1 ∷ []) (Entry.End 1) [] refl)

pub returns-clause-third_pass : goal.returns-clause-third_pass
returns-clause-third_pass c = λ h. cc (h (Entry.Say 1 1 ∷ Entry.Say 1 1 ∷ []) (Entry.Say 1 1) [] refl)

pub returns-clause-unstarted : goal.returns-clause-unstarted
returns-clause-unstarted c = λ h.
    let later : Some (Instr.Go 0) ≡ Some Instr.Finish = h (Entry.Say 2 1 ∷ Entry.Go 1 2 0 ∷ []) (Entry.End 1) [] refl 2 in
    cc later
