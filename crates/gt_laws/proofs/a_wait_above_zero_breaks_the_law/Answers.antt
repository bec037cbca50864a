use Rattle.std.proofs.Common.{◌≡◌, ℕ, pos, negsuc, [], ◌∷◌, true, false, refl, arith}
use Rattle.gt_model.specs.declared.entry.Entry.{Entry}
use Rattle.gt_laws.proofs.a_wait_above_zero_breaks_the_law.Goals as goal

pub returns-clause-above_zero : goal.returns-clause-above_zero
returns-clause-above_zero c = λ h.
    let counter : ◌≡◌ {A = ℕ} 1 0 = h (Entry.Add 1 1 (pos 1) ∷ []) (Entry.WgWait 1 1) [] refl in
    omega arith

pub returns-clause-below_zero : goal.returns-clause-below_zero
returns-clause-below_zero c = λ h.
    let below : true ≡ false = h (Entry.Add 1 1 (pos 1) ∷ Entry.Add 1 1 (negsuc 0) ∷ []) (Entry.Add 1 1 (negsuc 0)) [] refl in
    cc below
