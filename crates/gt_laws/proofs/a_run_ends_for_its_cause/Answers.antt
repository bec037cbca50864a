use Rattle.gt_laws.proofs.Ends.{each-ends}
use Rattle.gt_laws.proofs.a_run_ends_for_its_cause.Goals as goal

pub returns : goal.returns
returns c = each-ends
