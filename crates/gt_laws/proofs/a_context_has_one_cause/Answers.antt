use Rattle.gt_laws.proofs.FirstCauses.{one-cause}
use Rattle.gt_laws.proofs.a_context_has_one_cause.Goals as goal

pub returns : goal.returns
returns c = one-cause
