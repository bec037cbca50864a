use Rattle.gt_laws.proofs.Laws.{each-signalled}
use Rattle.gt_laws.proofs.a_signal_wakes_one_that_waits.Goals as goal

pub returns : goal.returns
returns c = each-signalled
