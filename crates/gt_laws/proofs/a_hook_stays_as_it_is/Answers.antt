use Rattle.gt_laws.proofs.FirstCauses.{each-stays}
use Rattle.gt_laws.proofs.a_hook_stays_as_it_is.Goals as goal

pub returns : goal.returns
returns c = each-stays
