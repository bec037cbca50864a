use Rattle.std.proofs.Common.{refl, lit<}
use Rattle.gt_model.specs.declared.entry.Entry.{Entry}
use Rattle.gt_examples.proofs.deadlock_beside_a_lock.Goals as goal

-- the lock of the second goroutine may come next, and is no move of the clock
pub returns : goal.returns
returns c = (
  (record { ending = refl; room = lit< tt }, record { stands = refl; calm = refl }),
  (
    (record { ending = refl; room = lit< tt }, (record { stands = refl; calm = refl }, refl)),
    (
      (record { ending = refl; room = lit< tt }, (record { stands = refl; calm = refl }, refl, refl)),
      ((record { ending = refl; room = lit< tt }, record { stands = refl; calm = refl }), (λ h. h.1 (Entry.Lock 2 0) (record { stands = refl; calm = refl }, refl, refl))),
    ),
  ),
)
