use Rattle.gt_laws.proofs.Laws.{each-adds_up}
use Rattle.gt_laws.proofs.a_wait_ends_at_zero.Goals as goal

pub returns : goal.returns
returns c = each-adds_up
