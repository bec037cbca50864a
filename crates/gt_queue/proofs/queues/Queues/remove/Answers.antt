use Rattle.std.proofs.Common.{◌∙◌}
use Rattle.gt_queue.proofs.Waiting.{without-one}
use Rattle.gt_queue.proofs.queues.Queues.remove.Goals as goal

pub withdraw-requires : goal.withdraw-requires
withdraw-requires c = c.lawful.ensures.below c.args.queue c.args.member c.requires

pub returns-clause-queues : goal.returns-clause-queues
returns-clause-queues c =
    c.withdraw.ensures.queues ∙ without-one c.args.self.now.queues c.args.self.now.members c.args.queue c.args.member c.lawful.ensures c.requires
