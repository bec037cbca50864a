use Rattle.gt_laws.proofs.Laws.{each-in_time}
use Rattle.gt_laws.proofs.nothing_comes_early.Goals as goal

pub returns : goal.returns
returns c = each-in_time
