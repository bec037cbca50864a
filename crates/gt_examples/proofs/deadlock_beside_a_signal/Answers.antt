use Rattle.std.proofs.Common.{refl, lit<}
use Rattle.gt_model.specs.declared.entry.Entry.{Entry}
use Rattle.gt_examples.proofs.deadlock_beside_a_signal.Goals as goal

-- the wake-up of main may come next, and is no move of the clock
pub returns : goal.returns
returns c = (
  (record { ending = refl; room = lit< tt }, record { stands = refl; calm = refl }),
  (
    (record { ending = refl; room = lit< tt }, (record { stands = refl; calm = refl }, refl)),
    (
      (record { ending = refl; room = lit< tt }, (record { stands = refl; calm = refl }, refl, refl)),
      (
        (record { ending = refl; room = lit< tt }, record { stands = refl; calm = refl }),
        (
          (record { ending = refl; room = lit< tt }, (record { stands = refl; calm = refl }, refl, refl)),
          (
            (record { ending = refl; room = lit< tt }, (record { stands = refl; calm = refl }, refl)),
            (
              (record { ending = refl; room = lit< tt }, record { stands = refl; calm = refl }),
              (
                (record { ending = refl; room = lit< tt }, record { stands = refl; calm = refl }),
                (
                  (record { ending = refl; room = lit< tt }, record { stands = refl; calm = refl }),
                  (λ h. h.1 (Entry.CondWake 1 1) (refl, refl)),
                ),
              ),
            ),
          ),
        ),
      ),
    ),
  ),
)
