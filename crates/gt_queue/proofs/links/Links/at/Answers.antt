use Rattle.std.proofs.Common.{◌≡◌, ◌+◌, ◌-◌, ◌<◌, ◌≤◌, length, get_or, sym, ap, ◌∙◌, arith}
use Rattle.std.proofs.lemmas.Grind.{get_or_default_zero}
use Rattle.gt_queue.specs.Nodes.{nodes_of}
use Rattle.gt_queue.proofs.Nodes.{length-nodes, nodes-low, nodes-own, nodes-high}
use Rattle.gt_queue.proofs.links.Links.at.Goals as goal

pub index-requires : goal.index-requires
index-requires c =
    let f = c.self.inside in
    let room : length f.low.items + f.low.spare ≡ f.members = c.self.invariant.room in
    let all : length (nodes_of f.members f.low.items f.high.items) ≡ f.members + length f.high.items = length-nodes f.members f.low.items f.high.items (omega arith) in
    let same : length (nodes_of f.members f.low.items f.high.items) ≡ length c.args.self.now = ap length c.self.view_is in
    let inside : c.args.i < length c.args.self.now = c.requires in
    let above : f.members ≤ c.args.i = c.if-i-self.true in
    omega (arith, f.high.ok.0)

pub returns-then-i-self : goal.returns-then-i-self
returns-then-i-self c =
    let f = c.self.inside in
    let room : length f.low.items + f.low.spare ≡ f.members = c.self.invariant.room in
    let all : length (nodes_of f.members f.low.items f.high.items) ≡ f.members + length f.high.items = length-nodes f.members f.low.items f.high.items (omega arith) in
    let same : length (nodes_of f.members f.low.items f.high.items) ≡ length c.args.self.now = ap length c.self.view_is in
    let inside : c.args.i < length c.args.self.now = c.requires in
    let above : f.members ≤ c.args.i = c.if-i-self.true in
    c.index.ensures ∙ (get_or_default_zero f.high.items (c.args.i - f.members) c.index.result.now (omega arith)
    ∙ (sym (nodes-high f.members f.low.items f.high.items c.args.i (omega arith) above) ∙ ap (λ xs. get_or xs c.args.i 0) c.self.view_is))

pub returns-then-i-len : goal.returns-then-i-len
returns-then-i-len c =
    let f = c.self.inside in
    let long : c.len.result ≡ length f.low.items = c.len.ensures in
    let short : c.args.i < c.len.result = c.if-i-len.true in
    let below : c.args.i < length f.low.items = omega arith in
    c.at.ensures.by_index 0 ∙ (sym (nodes-low f.members f.low.items f.high.items c.args.i below) ∙ ap (λ xs. get_or xs c.args.i 0) c.self.view_is)

pub returns-else-i-len : goal.returns-else-i-len
returns-else-i-len c =
    let f = c.self.inside in
    let long : c.len.result ≡ length f.low.items = c.len.ensures in
    let above : c.len.result ≤ c.args.i = c.if-i-len.false in
    let below : c.args.i < f.members = c.if-i-self.false in
    sym (nodes-own f.members f.low.items f.high.items c.args.i (omega arith) below) ∙ ap (λ xs. get_or xs c.args.i 0) c.self.view_is
