use Rattle.std.proofs.Common.{◌≡◌, ℕ, ◌≤◌, ◌<◌, [], ◌∷◌, Some, refl, arith, true, false}
use Rattle.gt_model.specs.declared.entry.Entry.{Entry}
use Rattle.gt_laws.specs.Broken.{almost_due}
use Rattle.gt_laws.proofs.an_early_wake_breaks_the_law.Goals as goal

pub returns-clause-early : goal.returns-clause-early
returns-clause-early c = λ h.
    let late : 9 ≤ 8 = h (Entry.Sleep 1 (Some 9) ∷ Entry.Clock 0 8 ∷ []) (Entry.Wake 1) [] refl in
    omega arith

pub returns-clause-falls_back : goal.returns-clause-falls_back
returns-clause-falls_back c = λ h.
    let up : 5 < 4 = (h (Entry.Clock 0 5 ∷ []) (Entry.Clock 0 4) [] refl).0 in
    omega arith

pub returns-clause-past_all_time : goal.returns-clause-past_all_time
returns-clause-past_all_time c = λ h.
    let time : 9223372036854775808 ≤ 9223372036854775807 = (h [] (Entry.Clock 0 9223372036854775808) [] refl).1 in
    omega arith

pub returns-clause-wrong_time : goal.returns-clause-wrong_time
returns-clause-wrong_time c = λ h.
    let seen : ◌≡◌ {A = ℕ} 6 5 = h (Entry.Clock 0 5 ∷ []) (Entry.Now 1 6) [] refl in
    omega arith

pub returns-clause-expires_early : goal.returns-clause-expires_early
returns-clause-expires_early c = λ h.
    let same : false ≡ true = h almost_due (Entry.Expire 0 0) [] refl in
    cc same
