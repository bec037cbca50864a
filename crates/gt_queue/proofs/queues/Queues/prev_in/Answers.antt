use Rattle.std.proofs.Common.{◌≡◌, ◌+◌, ◌<◌, None, length, sym, ap, arith}
use Rattle.std.specs.List.{last_or}
use Rattle.gt_queue.specs.Links.{linked_queues}
use Rattle.gt_queue.proofs.InFront.{Ends-in_front}
use Rattle.gt_queue.proofs.queues.Queues.prev_in.Goals as goal

pub at-node-requires : goal.at-node-requires
at-node-requires c =
    let f = c.self.inside in
    let l = c.self.invariant in
    let stands = rw (← c.self.view_is) at c.requires in
    let below : c.args.member < f.members = l.lawful.below stands.0 c.args.member stands.1 in
    let nodes : length f.next ≡ f.members + length (linked_queues f.members f.next) = l.nodes in
    let as_many : length f.prev ≡ length f.next = l.rings.as_many in
    omega arith

pub returns-then-node-self : goal.returns-then-node-self
returns-then-node-self c =
    let f = c.self.inside in
    rw (← c.self.view_is)
    (λ q stands. sym ((Ends-in_front f.members f.next f.prev (linked_queues f.members f.next) c.self.invariant q c.at-node.result c.args.member stands c.at-node.ensures).member c.if-node-self.true))

pub returns-else-node-self : goal.returns-else-node-self
returns-else-node-self c =
    let f = c.self.inside in
    rw (← c.self.view_is)
    (λ q stands. sym (ap (last_or None) ((Ends-in_front f.members f.next f.prev (linked_queues f.members f.next) c.self.invariant q c.at-node.result c.args.member stands c.at-node.ensures).nobody c.if-node-self.false)))
