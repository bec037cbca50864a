use Rattle.gt_laws.proofs.Ends.{each-ends_where_stuck}
use Rattle.gt_laws.proofs.a_stuck_run_ends.Goals as goal

pub returns : goal.returns
returns c = each-ends_where_stuck
