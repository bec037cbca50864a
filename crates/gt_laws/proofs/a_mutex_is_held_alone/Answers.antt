use Rattle.gt_laws.proofs.Laws.{each-alone}
use Rattle.gt_laws.proofs.a_mutex_is_held_alone.Goals as goal

pub returns : goal.returns
returns c = each-alone
