use Rattle.std.proofs.Common.{◌≡◌, ◌+◌, ◌<◌, length, sym, ap, arith, slice_get}
use Rattle.gt_queue.specs.Links.{linked_queues}
use Rattle.gt_queue.proofs.Behind.{Begins-behind}
use Rattle.gt_queue.proofs.queues.Queues.next_in.Goals as goal

pub at-node-requires : goal.at-node-requires
at-node-requires c =
    let f = c.self.inside in
    let l = c.self.invariant in
    let stands = rw (← c.self.view_is) at c.requires in
    let below : c.args.member < f.members = l.lawful.below stands.0 c.args.member stands.1 in
    let nodes : length f.next ≡ f.members + length (linked_queues f.members f.next) = l.nodes in
    omega arith

pub returns-then-node-self : goal.returns-then-node-self
returns-then-node-self c =
    let f = c.self.inside in
    rw (← c.self.view_is)
    (λ q stands. sym ((Begins-behind f.members f.next f.prev (linked_queues f.members f.next) c.self.invariant q c.args.member c.at-node.result stands c.at-node.ensures).member c.if-node-self.true))

pub returns-else-node-self : goal.returns-else-node-self
returns-else-node-self c =
    let f = c.self.inside in
    rw (← c.self.view_is)
    (λ q stands. sym (ap (λ xs. slice_get xs 0) ((Begins-behind f.members f.next f.prev (linked_queues f.members f.next) c.self.invariant q c.args.member c.at-node.result stands c.at-node.ensures).nobody c.if-node-self.false)))
