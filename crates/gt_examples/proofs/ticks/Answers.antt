use Rattle.std.proofs.Common.{refl, lit<, lit≤}
use Rattle.gt_examples.proofs.Idle.{idle-computed}
use Rattle.gt_examples.proofs.ticks.Goals as goal

pub returns-clause-history : goal.returns-clause-history
returns-clause-history c = record {
  legal = ((record { ending = refl; room = lit< tt }, (10000000, record { stands = refl; calm = refl }, refl)), ((record { ending = refl; room = lit< tt }, (35000000, record { stands = refl; calm = refl }, refl)), ((record { ending = refl; room = lit< tt }, (lit< tt, lit≤ tt)), ((record { ending = refl; room = lit< tt }, lit≤ tt), ((record { ending = refl; room = lit< tt }, (record { stands = refl; calm = refl }, refl, refl, lit≤ tt, record { ticks = 3; some = lit≤ tt; begun = lit≤ tt; is = refl })), ((record { ending = refl; room = lit< tt }, (lit< tt, lit≤ tt)), ((record { ending = refl; room = lit< tt }, (record { stands = refl; calm = refl }, refl, refl, lit≤ tt, record { ticks = 1; some = lit≤ tt; begun = lit≤ tt; is = refl })), ((record { ending = refl; room = lit< tt }, record { stands = refl; calm = refl }), (refl, tt)))))))));
  over = refl;
}

pub returns-clause-jumps : goal.returns-clause-jumps
returns-clause-jumps c = (tt, (tt, (record { idle = idle-computed _ _ refl refl refl; to_least = refl }, (tt, (tt, (record { idle = idle-computed _ _ refl refl refl; to_least = refl }, (tt, (tt, (tt, tt)))))))))
