use Rattle.gt_fire.proofs.Deriving.{drop-kept}
use Rattle.gt_fire.proofs.deadline.sec_drop_deadline.Goals as goal

pub returns-clause-kept : goal.returns-clause-kept
returns-clause-kept c = λ b lent ctx ended. drop-kept b c.args.rec.now c.disarm.new.self c.disarm.ensures.after c.disarm.ensures.bits lent ctx ended
