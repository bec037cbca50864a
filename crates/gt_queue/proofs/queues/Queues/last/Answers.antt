use Rattle.std.proofs.Common.{sym, refl}
use Rattle.gt_queue.specs.Links.{linked_queues}
use Rattle.gt_queue.proofs.InFront.{Ends-IsLinked}
use Rattle.gt_queue.proofs.queues.Queues.last.Goals as goal

pub returns-then-node-self-clause-last : goal.returns-then-node-self-clause-last
returns-then-node-self-clause-last c =
    let f = c.self.inside in
    let ends = Ends-IsLinked f.members f.next f.prev (linked_queues f.members f.next) c.self.invariant c.args.queue c.at-node.result (rw (← c.self.view_is) at c.requires) c.at-node.ensures in
    rw (← c.self.view_is) (sym (ends.member c.if-node-self.true))

pub returns-then-node-self-clause-none : goal.returns-then-node-self-clause-none
returns-then-node-self-clause-none c =
    let f = c.self.inside in
    let ends = Ends-IsLinked f.members f.next f.prev (linked_queues f.members f.next) c.self.invariant c.args.queue c.at-node.result (rw (← c.self.view_is) at c.requires) c.at-node.ensures in
    rw (← c.self.view_is)
    (λ e. cc, λ e. let found = rw e at (ends.member c.if-node-self.true) in cc)

pub returns-else-node-self-clause-last : goal.returns-else-node-self-clause-last
returns-else-node-self-clause-last c =
    let f = c.self.inside in
    let ends = Ends-IsLinked f.members f.next f.prev (linked_queues f.members f.next) c.self.invariant c.args.queue c.at-node.result (rw (← c.self.view_is) at c.requires) c.at-node.ensures in
    rw (← c.self.view_is) (rw (ends.nobody c.if-node-self.false) refl)

pub returns-else-node-self-clause-none : goal.returns-else-node-self-clause-none
returns-else-node-self-clause-none c =
    let f = c.self.inside in
    let ends = Ends-IsLinked f.members f.next f.prev (linked_queues f.members f.next) c.self.invariant c.args.queue c.at-node.result (rw (← c.self.view_is) at c.requires) c.at-node.ensures in
    rw (← c.self.view_is) (λ e. ends.nobody c.if-node-self.false, λ e. refl)
