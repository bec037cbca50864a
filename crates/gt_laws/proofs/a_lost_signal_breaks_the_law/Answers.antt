use Rattle.std.proofs.Common.{◌≡◌, ℕ, [], None, Some, refl, arith}
use Rattle.gt_model.specs.declared.entry.Entry.{Entry}
use Rattle.gt_laws.specs.Told.{signalled, suspended}
use Rattle.gt_laws.specs.Broken.{is_signalled, waits}
use Rattle.gt_laws.proofs.a_lost_signal_breaks_the_law.Goals as goal

pub returns-clause-nobody_signalled : goal.returns-clause-nobody_signalled
returns-clause-nobody_signalled c = λ h.
    let none : ◌≡◌ {A = ℕ} 1 0 = h waits (Entry.Signal 2 2 None) [] refl in
    omega arith

pub returns-clause-signalled_twice : goal.returns-clause-signalled_twice
returns-clause-signalled_twice c = λ h.
    let again : signalled 2 ≡ suspended 2 = h is_signalled (Entry.Signal 2 2 (Some 1)) [] refl in
    cc again

pub returns-clause-miscounted : goal.returns-clause-miscounted
returns-clause-miscounted c = λ h.
    let count : ◌≡◌ {A = ℕ} 2 1 = h waits (Entry.Broadcast 2 2 2) [] refl in
    omega arith
