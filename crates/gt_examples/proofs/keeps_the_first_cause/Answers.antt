use Rattle.std.proofs.Common.{refl, lit<, lit≤, Some, take}
use Rattle.gt_rules.specs.State.{State}
use Rattle.gt_rules.specs.After.{first_state}
use Rattle.gt_rules.specs.Contexts.{line_of}
use Rattle.gt_rules.specs.Finish.{IsIdle}
use Rattle.gt_rules.specs.History.{state_after}
use Rattle.gt_examples.specs.FirstCause.{script, history}
use Rattle.gt_examples.proofs.Idle.{idle-computed}
use Rattle.gt_examples.proofs.keeps_the_first_cause.Goals as goal

pub returns-clause-history : goal.returns-clause-history
unfolding line_of
returns-clause-history c = record {
  legal = ((record { ending = refl; room = lit< tt }, (record { stands = refl; calm = refl }, refl)), ((record { ending = refl; room = lit< tt }, (record { stands = refl; calm = refl }, refl)), ((record { ending = refl; room = lit< tt }, (record { stands = refl; calm = refl }, refl)), ((record { ending = refl; room = lit< tt }, (record { stands = refl; calm = refl }, refl)), ((record { ending = refl; room = lit< tt }, (record { stands = refl; calm = refl }, refl)), ((record { ending = refl; room = lit< tt }, (5000000, record { stands = refl; calm = refl }, refl)), ((record { ending = refl; room = lit< tt }, (lit< tt, lit≤ tt)), ((record { ending = refl; room = lit< tt }, lit≤ tt), ((record { ending = refl; room = lit< tt }, ((Some 0), record { stands = refl; calm = refl }, refl, refl)), ((record { ending = refl; room = lit< tt }, record { stands = refl; calm = refl }), ((record { ending = refl; room = lit< tt }, (record { stands = refl; calm = refl }, refl)), ((record { ending = refl; room = lit< tt }, (record { stands = refl; calm = refl }, refl)), ((record { ending = refl; room = lit< tt }, (lit< tt, lit≤ tt)), ((record { ending = refl; room = lit< tt }, ((refl, refl), refl)), ((record { ending = refl; room = lit< tt }, (record { stands = refl; calm = refl }, refl, refl)), ((record { ending = refl; room = lit< tt }, (record { stands = refl; calm = refl }, refl)), ((record { ending = refl; room = lit< tt }, (record { stands = refl; calm = refl }, refl)), ((record { ending = refl; room = lit< tt }, (record { stands = refl; calm = refl }, refl)), ((record { ending = refl; room = lit< tt }, (record { stands = refl; calm = refl }, refl)), ((record { ending = refl; room = lit< tt }, (record { stands = refl; calm = refl }, refl)), ((record { ending = refl; room = lit< tt }, record { stands = refl; calm = refl }), (refl, tt))))))))))))))))))))));
  over = refl;
}

-- where the second jump comes
abbrev later : State
later = state_after script (first_state script) (take 12 history)

later-idle : IsIdle script later
unfolding line_of
later-idle = idle-computed script later refl refl refl

pub returns-clause-jumps : goal.returns-clause-jumps
unfolding line_of
returns-clause-jumps c = (tt, (tt, (tt, (tt, (tt, (tt, (record { idle = idle-computed _ _ refl refl refl; to_least = refl }, (tt, (tt, (tt, (tt, (tt, (record { idle = later-idle; to_least = refl }, (tt, (tt, (tt, (tt, (tt, (tt, (tt, (tt, (tt, tt))))))))))))))))))))))
