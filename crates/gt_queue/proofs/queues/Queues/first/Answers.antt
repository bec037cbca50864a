use Rattle.std.proofs.Common.{sym, refl}
use Rattle.gt_queue.specs.Links.{linked_queues}
use Rattle.gt_queue.proofs.Changes.{Begins-IsLinked}
use Rattle.gt_queue.proofs.queues.Queues.first.Goals as goal

pub returns-then-node-self-clause-first : goal.returns-then-node-self-clause-first
returns-then-node-self-clause-first c =
    let f = c.self.inside in
    let begins = Begins-IsLinked f.members f.next f.prev (linked_queues f.members f.next) c.self.invariant c.args.queue c.at-node.result (rw (← c.self.view_is) at c.requires) c.at-node.ensures in
    rw (← c.self.view_is) (sym (begins.member c.if-node-self.true))

pub returns-then-node-self-clause-none : goal.returns-then-node-self-clause-none
returns-then-node-self-clause-none c =
    let f = c.self.inside in
    let begins = Begins-IsLinked f.members f.next f.prev (linked_queues f.members f.next) c.self.invariant c.args.queue c.at-node.result (rw (← c.self.view_is) at c.requires) c.at-node.ensures in
    rw (← c.self.view_is)
    (λ e. cc, λ e. let found = rw e at (begins.member c.if-node-self.true) in cc)

pub returns-else-node-self-clause-first : goal.returns-else-node-self-clause-first
returns-else-node-self-clause-first c =
    let f = c.self.inside in
    let begins = Begins-IsLinked f.members f.next f.prev (linked_queues f.members f.next) c.self.invariant c.args.queue c.at-node.result (rw (← c.self.view_is) at c.requires) c.at-node.ensures in
    rw (← c.self.view_is) (rw (begins.nobody c.if-node-self.false) refl)

pub returns-else-node-self-clause-none : goal.returns-else-node-self-clause-none
returns-else-node-self-clause-none c =
    let f = c.self.inside in
    let begins = Begins-IsLinked f.members f.next f.prev (linked_queues f.members f.next) c.self.invariant c.args.queue c.at-node.result (rw (← c.self.view_is) at c.requires) c.at-node.ensures in
    rw (← c.self.view_is) (λ e. begins.nobody c.if-node-self.false, λ e. refl)
