use Rattle.std.proofs.Common.{ap, ◌∙◌, set}
use Rattle.gt_queue.specs.Contents.{waiting_in}
use Rattle.gt_queue.proofs.Members.{without-first}
use Rattle.gt_queue.proofs.queues.Queues.dequeue.Goals as goal

pub returns-clause-queues : goal.returns-clause-queues
returns-clause-queues c =
    let queues = c.args.self.now.queues in
    c.remove.ensures.queues
    ∙ ap (set queues c.args.queue) (without-first c.in_ok-member.member (waiting_in queues c.args.queue) c.in_ok-member.ensures.first (c.lawful.ensures.once c.args.queue))
