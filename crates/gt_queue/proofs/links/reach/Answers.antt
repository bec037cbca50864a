use Rattle.std.proofs.Common.{◌≡◌, ◌+◌, ◌<◌, ◌≤◌, ◌++◌, ◌∷◌, [], length, length-append, ap, ◌∙◌, arith}
use Rattle.gt_queue.specs.Nodes.{nodes_of}
use Rattle.gt_queue.proofs.Nodes.{nodes-put}
use Rattle.gt_queue.proofs.links.reach.Goals as goal

pub loop-low-preserved : goal.loop-low-preserved
loop-low-preserved c =
    let items : c.put.new.self.items ≡ c.loop-low.low.items ++ length c.loop-low.low.items ∷ [] = c.put.ensures.items ∙ ap (λ n. c.loop-low.low.items ++ n ∷ []) c.len-next.ensures in
    let longer : length c.put.new.self.items ≡ length c.loop-low.low.items + 1 = ap length items ∙ length-append c.loop-low.low.items (length c.loop-low.low.items ∷ []) in
    let spare : c.put.new.self.spare + 1 ≡ c.loop-low.low.spare = c.put.ensures.spare in
    let room : length c.loop-low.low.items + c.loop-low.low.spare ≡ c.args.members = c.loop-low.invariant.0 in
    let here : c.len.result ≤ c.args.i = c.loop-low-test.true in
    let long : c.len.result ≡ length c.loop-low.low.items = c.len.ensures in
    let inside : c.args.i < c.args.members = c.requires.inside in
    (omega arith, λ high. ap (λ low. nodes_of c.args.members low high) items ∙ (nodes-put c.args.members c.loop-low.low.items high (omega arith) ∙ c.loop-low.invariant.1 high))
