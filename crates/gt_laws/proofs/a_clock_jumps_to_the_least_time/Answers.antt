use Rattle.gt_laws.proofs.Jumps.{each-jumps, all-jump}
use Rattle.gt_laws.proofs.a_clock_jumps_to_the_least_time.Goals as goal

pub returns-clause-told : goal.returns-clause-told
returns-clause-told c = each-jumps

pub returns-clause-jumps : goal.returns-clause-jumps
returns-clause-jumps c = all-jump
