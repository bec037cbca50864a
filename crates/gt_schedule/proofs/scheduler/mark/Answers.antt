use Rattle.std.proofs.Common.{refl, ◌∙◌}
use Rattle.gt_model.specs.Tables.{numbered}
use Rattle.gt_schedule.proofs.Counting.{set-change_numbered}
use Rattle.gt_schedule.proofs.scheduler.mark.Goals as goal

pub returns-clause-items : goal.returns-clause-items
returns-clause-items c =
    let xs = c.args.statuses.now.items in
    c.set.ensures.items ∙ set-change_numbered xs c.args.g c.args.status (numbered xs c.args.g) refl c.requires
