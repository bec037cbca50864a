use Rattle.std.proofs.Common.{sym, ◌∙◌}
use Rattle.gt_queue.specs.Contents.{IsWaiting}
use Rattle.gt_queue.specs.Links.{linked_queues}
use Rattle.gt_queue.proofs.Changes.{Makes-removed, not_alone_if_waiting}
use Rattle.gt_queue.proofs.Waiting.{without-one, without-none}
use Rattle.gt_queue.proofs.queues.Queues.withdraw.Goals as goal

pub invariant_of-self : goal.invariant_of-self
invariant_of-self c =
    let f = c.self.inside in
    let l = c.self.invariant in
    let below = rw (← c.self.view_is) at c.requires in
    let read = c.at-after.ensures in
    let stands : IsWaiting (linked_queues f.members f.next) c.args.member = l.alone c.args.member below (λ e. c.if-after-node.true (read ∙ e)) in
    let next = rw read at c.splice.ensures.next in
    let prev = rw read at c.splice.ensures.prev in
    (Makes-removed f.members f.next f.prev _ _ l stands.0 c.args.member stands.1 next prev).linked

pub returns-then-after-node-clause-queues : goal.returns-then-after-node-clause-queues
returns-then-after-node-clause-queues c =
    let f = c.self.inside in
    let l = c.self.invariant in
    let below = rw (← c.self.view_is) at c.requires in
    let read = c.at-after.ensures in
    let stands : IsWaiting (linked_queues f.members f.next) c.args.member = l.alone c.args.member below (λ e. c.if-after-node.true (read ∙ e)) in
    let next = rw read at c.splice.ensures.next in
    let prev = rw read at c.splice.ensures.prev in
    rw (← c.self.view_is)
    ((Makes-removed f.members f.next f.prev _ _ l stands.0 c.args.member stands.1 next prev).shown
    ∙ sym (without-one (linked_queues f.members f.next) f.members stands.0 c.args.member l.lawful stands.1))

pub returns-else-after-node-clause-queues : goal.returns-else-after-node-clause-queues
returns-else-after-node-clause-queues c =
    let f = c.self.inside in
    let l = c.self.invariant in
    let below = rw (← c.self.view_is) at c.requires in
    let read = c.at-after.ensures in
    rw (← c.self.view_is)
    (sym (without-none (linked_queues f.members f.next) c.args.member
    (λ w. not_alone_if_waiting f.members f.next f.prev (linked_queues f.members f.next) l w.0 c.args.member w.1 (sym read ∙ c.if-after-node.false))))
