use Rattle.std.proofs.Common.{◌≡◌, [], ◌∷◌, true, false, refl}
use Rattle.gt_model.specs.declared.entry.Entry.{Entry}
use Rattle.gt_laws.specs.Broken.{value_waits}
use Rattle.gt_laws.proofs.a_default_over_a_value_breaks_the_law.Goals as goal

pub returns-clause-over_a_value : goal.returns-clause-over_a_value
returns-clause-over_a_value c = λ h.
    let gives : true ≡ false = h value_waits (Entry.Default 1) [] refl in
    cc gives

pub returns-clause-over_a_close : goal.returns-clause-over_a_close
returns-clause-over_a_close c = λ h.
    let gives : true ≡ false = h (Entry.Make 1 1 ∷ Entry.Close 1 1 ∷ []) (Entry.Default 1) [] refl in
    cc gives

pub returns-clause-neither_waits : goal.returns-clause-neither_waits
returns-clause-neither_waits c = λ h.
    let both : true ≡ false = h (Entry.Make 1 1 ∷ Entry.Go 1 2 1 ∷ []) (Entry.Pair (record { g = 2; case_no = 1 }) (record { g = 1; case_no = 1 }) 1 1) [] refl in
    cc both
