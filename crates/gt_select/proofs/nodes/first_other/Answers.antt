use Rattle.std.proofs.Common.{Some, refl, sym, ap, ◌∙◌}
use Rattle.gt_queue.specs.Contents.{waiting_in}
use Rattle.gt_select.specs.Kept.{party_at}
use Rattle.gt_select.proofs.Others.{IsPassing, IsPassing-start, IsPassing-next, from_member-shorter}
use Rattle.gt_select.proofs.nodes.first_other.Goals as goal

pub loop-next-init : goal.loop-next-init
loop-next-init c =
    IsPassing-start (party_at c.args.tickets.now) (waiting_in c.args.queues.now.queues c.args.queue) c.args.g c.first-next.result c.first-next.ensures.first

pub loop-next-smaller : goal.loop-next-smaller
loop-next-smaller c =
    let xs = waiting_in c.args.queues.now.queues c.args.queue in
    let f = party_at c.args.tickets.now in
    let passing : IsPassing f xs c.args.g (Some c.in-Some.node) = rw c.in-Some.is at c.loop-next.invariant in
    let stands = passing.stands c.in-Some.node refl in
    rw c.in-Some.is
    (from_member-shorter f xs c.args.g c.in-Some.node c.next_in-next.result (c.lawful.ensures.once c.args.queue) (c.next_in-next.ensures c.args.queue stands))

pub loop-next-preserved : goal.loop-next-preserved
loop-next-preserved c =
    let xs = waiting_in c.args.queues.now.queues c.args.queue in
    let f = party_at c.args.tickets.now in
    let passing : IsPassing f xs c.args.g (Some c.in-Some.node) = rw c.in-Some.is at c.loop-next.invariant in
    let stands = passing.stands c.in-Some.node refl in
    IsPassing-next f xs c.args.g c.in-Some.node c.next_in-next.result (c.lawful.ensures.once c.args.queue) (c.next_in-next.ensures c.args.queue stands)
    (ap (λ p. p.g) (sym c.party_at-party.ensures) ∙ c.if-party-g.false)
    passing
