use Rattle.gt_laws.proofs.Laws.{each-hooks}
use Rattle.gt_laws.proofs.a_hook_starts_once.Goals as goal

pub returns : goal.returns
returns c = each-hooks
