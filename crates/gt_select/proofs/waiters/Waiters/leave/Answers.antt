use Rattle.std.proofs.Common.{◌≡◌, Some, None, get_or, sym, ap, ◌∙◌}
use Rattle.gt_select.specs.Kept.{turns_of}
use Rattle.gt_select.proofs.Places.{ArePlaced-left}
use Rattle.gt_select.proofs.Shown.{shown, lists_of-left, lists_of-absent}
use Rattle.gt_select.proofs.waiters.Waiters.leave.Goals as goal

pub invariant_of-self : goal.invariant_of-self
invariant_of-self c =
    let f = c.self.inside in
    (c.self.invariant.0, ArePlaced-left f.places f.tickets f.queues c.withdraw.new.self c.self.invariant.1 c.withdraw.ensures.members _ c.withdraw.ensures.queues)

pub returns-in-Some : goal.returns-in-Some
returns-in-Some c =
    let f = c.self.inside in
    let known : get_or f.keys c.args.p.g None ≡ Some c.in-Some.key = sym c.at.ensures ∙ c.in-Some.is in
    rw (← c.self.view_is)
    (ap (λ lists. shown lists (turns_of f.tickets f.keys) f.turns f.goroutines)
    (lists_of-left f.goroutines f.turns f.keys f.places f.tickets f.queues c.self.invariant.0 c.self.invariant.1 c.withdraw.new.self.queues c.args.p c.in-Some.key known c.requires c.withdraw.ensures.queues))

pub returns-in_default : goal.returns-in_default
returns-in_default c =
    let f = c.self.inside in
    rw (← c.self.view_is)
    (ap (λ lists. shown lists (turns_of f.tickets f.keys) f.turns f.goroutines)
    (lists_of-absent f.goroutines f.turns f.keys f.places f.tickets f.queues c.self.invariant.0 c.self.invariant.1 c.args.p (sym c.at.ensures ∙ c.in_default.is)))
