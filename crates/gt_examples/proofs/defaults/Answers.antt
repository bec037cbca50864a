use Rattle.std.proofs.Common.{refl, lit<, lit≤}
use Rattle.gt_model.specs.declared.script.CaseKind.{CaseKind}
use Rattle.gt_examples.specs.Words.{case_of}
use Rattle.gt_examples.proofs.Idle.{idle-computed}
use Rattle.gt_examples.proofs.Choices.{defaults-alone}
use Rattle.gt_examples.proofs.defaults.Goals as goal

pub returns-clause-history : goal.returns-clause-history
returns-clause-history c = record {
  legal = (
    (record { ending = refl; room = lit< tt }, (10000000, record { stands = refl; calm = refl }, refl)),
    (
      (record { ending = refl; room = lit< tt }, (5000000, record { stands = refl; calm = refl }, refl)),
      (
        (record { ending = refl; room = lit< tt }, (lit< tt, lit≤ tt)),
        (
          (record { ending = refl; room = lit< tt }, lit≤ tt),
          (
            (record { ending = refl; room = lit< tt }, (record { stands = refl; calm = refl }, refl)),
            (
              (record { ending = refl; room = lit< tt }, (10000000, record { stands = refl; calm = refl }, refl)),
              (
                (record { ending = refl; room = lit< tt }, (lit< tt, lit≤ tt)),
                (
                  (record { ending = refl; room = lit< tt }, lit≤ tt),
                  (
                    (record { ending = refl; room = lit< tt }, defaults-alone _ _ _ (case_of (CaseKind.Recv 0) 5) 7 (record { stands = refl; calm = refl }) refl),
                    (
                      (record { ending = refl; room = lit< tt }, record { stands = refl; calm = refl }),
                      ((record { ending = refl; room = lit< tt }, record { stands = refl; calm = refl }), (refl, tt)),
                    ),
                  ),
                ),
              ),
            ),
          ),
        ),
      ),
    ),
  );
  over = refl;
}

pub returns-clause-jumps : goal.returns-clause-jumps
returns-clause-jumps c = (
  tt,
  (
    tt,
    (
      record { idle = idle-computed _ _ refl refl refl; to_least = refl },
      (tt, (tt, (tt, (record { idle = idle-computed _ _ refl refl refl; to_least = refl }, (tt, (tt, (tt, (tt, (tt, tt))))))))),
    ),
  ),
)
