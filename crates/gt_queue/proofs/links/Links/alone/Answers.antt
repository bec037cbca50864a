use Rattle.std.proofs.Common.{rules, ◌≡◌, ◌+◌, ◌<◌, ◌^◌, [], length, refl, ap, ◌∙◌, arith, IfOk}
use Rattle.std.specs.List.{range_with_len}
use Rattle.std.proofs.lemmas.List.FromFn.{length-range_with_len}
use Rattle.std.proofs.lemmas.Iterator.{items_from_collect, YieldsList-from_range}
use Rattle.gt_queue.specs.Nodes.{nodes_of}
use Rattle.gt_queue.proofs.Nodes.{nodes-none}
use Rattle.gt_queue.proofs.links.Links.alone.Goals as goal

pub invariant_of-result : goal.invariant_of-result
invariant_of-result c =
    let every : IfOk c.collect.result (λ v. v.items ≡ range_with_len c.args.members c.args.queues) = items_from_collect _ c.collect.ensures.ran (YieldsList-from_range c.args.members (c.args.members + c.args.queues) c.args.queues refl (omega arith)) in
    let high : c.in_ok-high.high.items ≡ range_with_len c.args.members c.args.queues = search rules in
    let size : length c.in_ok-high.high.items ≡ c.args.queues = ap length high ∙ length-range_with_len c.args.members c.args.queues in
    let empty : c.in_ok-low.low.items ≡ [] = search rules in
    let spare : c.in_ok-low.low.spare ≡ c.args.members = search rules in
    let none : length c.in_ok-low.low.items ≡ 0 = ap length empty in
    let few : c.args.members + c.args.queues < 2 ^ 32 = c.requires in
    record { room = omega arith; few = omega arith }

pub returns : goal.returns
returns c =
    let every : IfOk c.collect.result (λ v. v.items ≡ range_with_len c.args.members c.args.queues) = items_from_collect _ c.collect.ensures.ran (YieldsList-from_range c.args.members (c.args.members + c.args.queues) c.args.queues refl (omega arith)) in
    let high : c.in_ok-high.high.items ≡ range_with_len c.args.members c.args.queues = search rules in
    let empty : c.in_ok-low.low.items ≡ [] = search rules in
    ap (λ low. nodes_of c.args.members low c.in_ok-high.high.items) empty ∙ (ap (nodes_of c.args.members []) high ∙ nodes-none c.args.members c.args.queues)
