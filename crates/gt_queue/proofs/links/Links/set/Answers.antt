use Rattle.std.proofs.Common.{◌≡◌, ◌+◌, ◌<◌, ◌≤◌, length, set, ap, ◌∙◌, arith}
use Rattle.gt_queue.specs.Nodes.{nodes_of}
use Rattle.gt_queue.proofs.Nodes.{length-nodes, nodes-set_low, nodes-set_high}
use Rattle.gt_queue.proofs.links.Links.set.Goals as goal

pub index_mut-requires : goal.index_mut-requires
index_mut-requires c =
    let f = c.self.inside in
    let room : length f.low.items + f.low.spare ≡ f.members = c.self.invariant.room in
    let all : length (nodes_of f.members f.low.items f.high.items) ≡ f.members + length f.high.items = length-nodes f.members f.low.items f.high.items (omega arith) in
    let same : length (nodes_of f.members f.low.items f.high.items) ≡ length c.args.self.now = ap length c.self.view_is in
    let inside : c.args.i < length c.args.self.now = c.requires in
    let above : f.members ≤ c.args.i = c.if-i-self.true in
    omega (arith, f.high.ok.0)

pub returns-then-i-self : goal.returns-then-i-self
returns-then-i-self c =
    let f = c.self.inside in
    let room : length f.low.items + f.low.spare ≡ f.members = c.self.invariant.room in
    let above : f.members ≤ c.args.i = c.if-i-self.true in
    nodes-set_high f.members f.low.items f.high.items c.args.i c.args.x (omega arith) above ∙ ap (λ xs. set xs c.args.i c.args.x) c.self.view_is

pub returns-else-i-self : goal.returns-else-i-self
returns-else-i-self c =
    let f = c.self.inside in
    ap (λ low. nodes_of f.members low f.high.items) c.set.ensures.items
    ∙ (nodes-set_low f.members c.reach.new.low.items f.high.items c.args.i c.args.x c.reach.ensures.reached
    ∙ ap (λ xs. set xs c.args.i c.args.x) (c.reach.ensures.nodes f.high.items ∙ c.self.view_is))
