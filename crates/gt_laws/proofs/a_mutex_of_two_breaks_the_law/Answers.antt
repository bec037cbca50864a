use Rattle.std.proofs.Common.{◌≡◌, [], ◌∷◌, true, false, refl}
use Rattle.gt_model.specs.declared.entry.Entry.{Entry}
use Rattle.gt_laws.specs.Broken.{is_signalled}
use Rattle.gt_laws.proofs.a_mutex_of_two_breaks_the_law.Goals as goal

pub returns-clause-two_hold : goal.returns-clause-two_hold
returns-clause-two_hold c = λ h.
    let held : true ≡ false = h (Entry.Go 1 2 1 ∷ Entry.Lock 1 1 ∷ []) (Entry.Lock 2 1) [] refl in
    cc held

pub returns-clause-unlocked_free : goal.returns-clause-unlocked_free
returns-clause-unlocked_free c = λ h.
    let free : false ≡ true = h (Entry.Lock 1 1 ∷ Entry.Unlock 1 1 ∷ []) (Entry.Unlock 1 1) [] refl in
    cc free

pub returns-clause-woken_over_a_lock : goal.returns-clause-woken_over_a_lock
returns-clause-woken_over_a_lock c = λ h.
    let held : true ≡ false = h is_signalled (Entry.CondWake 1 2) [] refl in
    cc held
