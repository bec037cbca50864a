use Rattle.std.proofs.Common.{◌≡◌, Some, None, get_or, map, sym, ap, ◌∙◌}
use Rattle.gt_select.specs.Kept.{lists_of, turns_of}
use Rattle.gt_select.proofs.Tickets.{AreTickets-gone, turns_of-gone}
use Rattle.gt_select.proofs.Places.{ArePlaced-gone}
use Rattle.gt_select.proofs.Shown.{shown, lists_of-gone}
use Rattle.gt_select.specs.Waiting.{without_goroutine}
use Rattle.gt_select.proofs.waiters.Waiters.win.Goals as goal

pub leave_all-requires-clause-reached : goal.leave_all-requires-clause-reached
leave_all-requires-clause-reached c = c.self.invariant.1.reached c.unwrap-key.result c.remove-waiter.result c.remove-waiter.ensures.value

pub invariant_of-self : goal.invariant_of-self
invariant_of-self c =
    let f = c.self.inside in
    let key = c.unwrap-key.result in
    let known : get_or f.keys c.args.t.g None ≡ Some key = sym c.at.ensures ∙ c.unwrap-key.ensures in
    let e = c.remove-waiter.ensures in (
      rw c.set.ensures (AreTickets-gone f.goroutines f.turns f.keys f.tickets c.self.invariant.0 c.args.t.g key c.remove-waiter.new.self known e.updates e.len e.capacity),
      ArePlaced-gone f.places f.tickets f.queues c.leave_all.new.queues c.self.invariant.1 c.leave_all.ensures.members key c.remove-waiter.new.self c.leave_all.ensures.queues e.updates e.capacity,
    )

pub returns-clause-waiters : goal.returns-clause-waiters
returns-clause-waiters c =
    let f = c.self.inside in
    let key = c.unwrap-key.result in
    let t' = c.remove-waiter.new.self in
    let known : get_or f.keys c.args.t.g None ≡ Some key = sym c.at.ensures ∙ c.unwrap-key.ensures in
    rw (← c.self.view_is)
    (ap (λ lists. shown lists (turns_of t' c.set.new.self) f.turns f.goroutines)
    (lists_of-gone f.goroutines f.turns f.keys f.places f.tickets f.queues c.self.invariant.0 c.self.invariant.1 c.leave_all.new.queues.queues t' c.args.t.g key known c.leave_all.ensures.queues c.remove-waiter.ensures.updates)
    ∙ ap (λ tickets. shown (map (λ waiting. without_goroutine waiting c.args.t.g) (lists_of f.tickets f.queues.queues)) tickets f.turns f.goroutines)
    (ap (turns_of t') c.set.ensures ∙ turns_of-gone f.goroutines f.turns f.keys f.tickets c.self.invariant.0 c.args.t.g key t' known c.remove-waiter.ensures.updates))
