use Rattle.gt_laws.proofs.Laws.{each-chooses_rightly}
use Rattle.gt_laws.proofs.defaults_are_taken_rightly.Goals as goal

pub returns : goal.returns
returns c = each-chooses_rightly
