use Rattle.std.proofs.Common.{◌≡◌, ◌<◌, Some, None, get_or, length, map, sym, ap, ◌∙◌}
use Rattle.std.proofs.lemmas.List.{length-map}
use Rattle.gt_select.specs.Kept.{party_at, turns_of}
use Rattle.gt_select.proofs.Places.{ArePlaced-forgotten}
use Rattle.gt_select.proofs.Shown.{shown, lists_of-forgotten, lists_of-unknown}
use Rattle.gt_select.proofs.waiters.Waiters.forget.Goals as goal

pub leave_one-requires-clause-reached : goal.leave_one-requires-clause-reached
leave_one-requires-clause-reached c = c.self.invariant.1.reached c.in-Some.key c.index.result.now c.index.ensures c.args.list

pub invariant_of-self : goal.invariant_of-self
invariant_of-self c =
    let f = c.self.inside in
    let size = length-map f.queues.queues (map (party_at f.tickets)) in
    let inside : c.args.list < length f.queues.queues = rw (← c.self.view_is, size) at c.requires in
    (c.self.invariant.0, ArePlaced-forgotten f.places f.tickets f.queues c.leave_one.new.queues c.self.invariant.1 c.leave_one.ensures.members c.args.list c.in-Some.key inside c.leave_one.ensures.queues)

pub returns-in-Some : goal.returns-in-Some
returns-in-Some c =
    let f = c.self.inside in
    let known : get_or f.keys c.args.g None ≡ Some c.in-Some.key = sym c.at.ensures ∙ c.in-Some.is in
    rw (← c.self.view_is)
    (ap (λ lists. shown lists (turns_of f.tickets f.keys) f.turns f.goroutines)
    (lists_of-forgotten f.goroutines f.turns f.keys f.places f.tickets f.queues c.self.invariant.0 c.self.invariant.1 c.leave_one.new.queues.queues c.args.list c.args.g c.in-Some.key known c.leave_one.ensures.queues))

pub returns-in_default : goal.returns-in_default
returns-in_default c =
    let f = c.self.inside in
    rw (← c.self.view_is)
    (ap (λ lists. shown lists (turns_of f.tickets f.keys) f.turns f.goroutines)
    (lists_of-unknown f.goroutines f.turns f.keys f.places f.tickets f.queues c.self.invariant.0 c.self.invariant.1 c.args.list c.args.g (sym c.at.ensures ∙ c.in_default.is)))
