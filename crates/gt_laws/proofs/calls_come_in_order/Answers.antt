use Rattle.gt_laws.proofs.Laws.{each-in_order}
use Rattle.gt_laws.proofs.calls_come_in_order.Goals as goal

pub returns : goal.returns
returns c = each-in_order
