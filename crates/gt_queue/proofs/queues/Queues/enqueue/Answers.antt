use Rattle.gt_queue.proofs.Changes.{Makes-pushed}
use Rattle.gt_queue.proofs.queues.Queues.enqueue.Goals as goal

pub invariant_of-self : goal.invariant_of-self
invariant_of-self c =
    let f = c.self.inside in
    (Makes-pushed f.members f.next f.prev _ _ c.self.invariant c.args.queue c.args.member (rw (← c.self.view_is) at c.requires.queue) (rw (← c.self.view_is) at c.requires.member) (rw (← c.self.view_is) at c.requires.free) c.splice.ensures.next c.splice.ensures.prev).linked

pub returns-clause-queues : goal.returns-clause-queues
returns-clause-queues c =
    let f = c.self.inside in
    rw (← c.self.view_is)
    ((Makes-pushed f.members f.next f.prev _ _ c.self.invariant c.args.queue c.args.member (rw (← c.self.view_is) at c.requires.queue) (rw (← c.self.view_is) at c.requires.member) (rw (← c.self.view_is) at c.requires.free) c.splice.ensures.next c.splice.ensures.prev).shown)
