use Rattle.gt_facts.proofs.Still.{still-IsIdle, idle-IsStill}
use Rattle.gt_laws.proofs.a_program_is_idle_where_it_stands_still.Goals as goal

pub returns-clause-idle : goal.returns-clause-idle
returns-clause-idle c = still-IsIdle

pub returns-clause-still : goal.returns-clause-still
returns-clause-still c = idle-IsStill
