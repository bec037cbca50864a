use Rattle.gt_laws.proofs.Laws.{each-fresh}
use Rattle.gt_laws.proofs.no_value_is_stale.Goals as goal

pub returns : goal.returns
returns c = each-fresh
