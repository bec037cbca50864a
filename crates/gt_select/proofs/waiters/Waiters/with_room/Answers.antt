use Rattle.std.proofs.Common.{◌≡◌, ◌+◌, ◌*◌, ◌^◌, ◌<◌, ◌≤◌, [], replicate, ap, ◌∙◌, arith}
use Rattle.gt_select.specs.Kept.{lists_of, turns_of}
use Rattle.gt_select.proofs.Tickets.{AreTickets-first}
use Rattle.gt_select.proofs.Places.{ArePlaced-first}
use Rattle.gt_select.proofs.Shown.{shown, lists_of-empty, turns_of-empty}
use Rattle.gt_select.proofs.waiters.Waiters.with_room.Goals as goal

pub invariant_of-result : goal.invariant_of-result
invariant_of-result c =
    let t = c.in_ok-tickets.tickets in
    let most : c.capacity-most.result ≡ t.capacity = c.capacity-most.ensures.value in
    let nodes : c.capacity-most.result * 17 ≡ t.capacity * 17 = ap (λ n. n * 17) most in
    let room : c.args.goroutines + 1 ≤ t.capacity = c.in_ok-tickets.ensures.capacity in
    let few : c.capacity-most.result * 17 < 2 ^ 32 = omega arith in (
      rw c.in_ok-keys.ensures (AreTickets-first c.args.goroutines t c.in_ok-tickets.ensures.empty room),
      rw c.in_ok-places.ensures (ArePlaced-first (c.capacity-most.result * 17) c.args.lists t c.in_ok-queues.queues c.in_ok-queues.ensures.queues c.in_ok-queues.ensures.members nodes few c.in_ok-tickets.ensures.empty),
    )

pub returns : goal.returns
returns c =
    let t = c.in_ok-tickets.tickets in
    ap (λ lists. shown lists (turns_of t c.in_ok-keys.keys) 0 c.args.goroutines) (ap (lists_of t) c.in_ok-queues.ensures.queues ∙ lists_of-empty t c.args.lists)
    ∙ ap (λ tickets. shown (replicate c.args.lists []) tickets 0 c.args.goroutines) (ap (turns_of t) c.in_ok-keys.ensures ∙ turns_of-empty t (c.args.goroutines + 1))
