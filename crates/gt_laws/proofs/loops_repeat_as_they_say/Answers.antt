use Rattle.gt_laws.proofs.Turns.{each-in_turn}
use Rattle.gt_laws.proofs.loops_repeat_as_they_say.Goals as goal

pub returns : goal.returns
returns c = each-in_turn
