use Rattle.std.proofs.Common.{◌≡◌, ℕ, [], ◌∷◌, Some, true, false, refl, arith}
use Rattle.gt_model.specs.declared.entry.Entry.{Entry}
use Rattle.gt_laws.proofs.a_far_jump_breaks_the_law.Goals as goal

pub returns-clause-far : goal.returns-clause-far
returns-clause-far c = λ h.
    let least : ◌≡◌ {A = ℕ} 11 9 = (h (Entry.Sleep 1 (Some 9) ∷ []) (Entry.Clock 0 11) [] refl).1 in
    omega arith

pub returns-clause-early : goal.returns-clause-early
returns-clause-early c = λ slip h.
    let goes_on : true ≡ false = (h [] (Entry.Clock 0 9) [] refl).0.nobody 1 in
    cc goes_on
