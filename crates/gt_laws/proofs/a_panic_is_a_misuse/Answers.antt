use Rattle.gt_laws.proofs.Made.{each-uses_rightly}
use Rattle.gt_laws.proofs.a_panic_is_a_misuse.Goals as goal

pub returns : goal.returns
returns c = each-uses_rightly
