use Rattle.gt_laws.proofs.Laws.{each-passes_on}
use Rattle.gt_laws.proofs.values_pass_in_order.Goals as goal

pub returns : goal.returns
returns c = each-passes_on
