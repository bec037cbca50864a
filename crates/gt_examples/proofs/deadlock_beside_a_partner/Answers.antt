use Rattle.std.proofs.Common.{refl, lit<}
use Rattle.gt_model.specs.declared.entry.Entry.{Entry}
use Rattle.gt_examples.specs.Words.{plainly}
use Rattle.gt_examples.proofs.deadlock_beside_a_partner.Goals as goal

-- the pair of the two may come next, and is no move of the clock
pub returns : goal.returns
returns c =
    ((record { ending = refl; room = lit< tt }, record { stands = refl; calm = refl }), ((record { ending = refl; room = lit< tt }, (record { stands = refl; calm = refl }, refl)), (λ h. h.1 (Entry.Pair (plainly 2) (plainly 1) 0 7) (record { stands = refl; calm = refl }, record { stands = refl; calm = refl }, refl, refl, (λ e. cc), refl))))
