use Rattle.std.proofs.Common.{◌≡◌, ◌+◌, ◌<◌, length, arith}
use Rattle.gt_queue.specs.Links.{linked_queues}
use Rattle.gt_queue.proofs.PutBefore.{Makes-inserted}
use Rattle.gt_queue.proofs.queues.Queues.enqueue_before.Goals as goal

pub splice-requires-clause-x_in : goal.splice-requires-clause-x_in
splice-requires-clause-x_in c =
    let f = c.self.inside in
    let l = c.self.invariant in
    let below : c.args.other < f.members = l.lawful.below c.args.queue c.args.other (rw (← c.self.view_is) at c.requires.other) in
    let nodes : length f.next ≡ f.members + length (linked_queues f.members f.next) = l.nodes in
    let as_many : length f.prev ≡ length f.next = l.rings.as_many in
    omega arith

pub invariant_of-self : goal.invariant_of-self
invariant_of-self c =
    let f = c.self.inside in
    (Makes-inserted f.members f.next f.prev _ _ c.self.invariant c.args.queue c.args.other c.args.member (rw (← c.self.view_is) at c.requires.other) (rw (← c.self.view_is) at c.requires.member) (rw (← c.self.view_is) at c.requires.free) c.splice.ensures.next c.splice.ensures.prev).linked

pub returns-clause-queues : goal.returns-clause-queues
returns-clause-queues c =
    let f = c.self.inside in
    rw (← c.self.view_is)
    ((Makes-inserted f.members f.next f.prev _ _ c.self.invariant c.args.queue c.args.other c.args.member (rw (← c.self.view_is) at c.requires.other) (rw (← c.self.view_is) at c.requires.member) (rw (← c.self.view_is) at c.requires.free) c.splice.ensures.next c.splice.ensures.prev).shown)
