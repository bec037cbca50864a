use Rattle.gt_facts.proofs.Quiet.{quiet-IsIdle}
use Rattle.gt_laws.proofs.a_quiet_program_is_idle.Goals as goal

pub returns : goal.returns
returns c = quiet-IsIdle
