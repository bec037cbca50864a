use Rattle.gt_laws.proofs.Laws.{each-keeps}
use Rattle.gt_laws.proofs.a_context_keeps_its_first_cause.Goals as goal

pub returns : goal.returns
returns c = each-keeps
