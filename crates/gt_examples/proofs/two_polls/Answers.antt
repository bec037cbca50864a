use Rattle.std.proofs.Common.{refl, lit<}
use Rattle.gt_model.specs.declared.script.CaseKind.{CaseKind}
use Rattle.gt_examples.specs.Words.{case_of}
use Rattle.gt_examples.proofs.Choices.{defaults-alone}
use Rattle.gt_examples.proofs.two_polls.Goals as goal

pub returns-clause-history : goal.returns-clause-history
returns-clause-history c = record {
  legal = (
    (record { ending = refl; room = lit< tt }, record { stands = refl; calm = refl }),
    (
      (record { ending = refl; room = lit< tt }, (record { stands = refl; calm = refl }, refl)),
      (
        (record { ending = refl; room = lit< tt }, defaults-alone _ _ _ (case_of (CaseKind.Send 0 7) 1) 2 (record { stands = refl; calm = refl }) refl),
        (
          (record { ending = refl; room = lit< tt }, defaults-alone _ _ _ (case_of (CaseKind.Recv 0) 3) 5 (record { stands = refl; calm = refl }) refl),
          (
            (record { ending = refl; room = lit< tt }, record { stands = refl; calm = refl }),
            ((record { ending = refl; room = lit< tt }, record { stands = refl; calm = refl }), (refl, tt)),
          ),
        ),
      ),
    ),
  );
  over = refl;
}
