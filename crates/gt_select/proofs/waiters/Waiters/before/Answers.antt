use Rattle.std.proofs.Common.{◌≡◌, ◌+◌, ◌*◌, Some, None, get_or, sym, ap, ◌∙◌, arith}
use Rattle.std.specs.List.{last_or}
use Rattle.gt_queue.specs.Contents.{waiting_in, in_front}
use Rattle.gt_select.proofs.InFront.{has_key, stands_at, before_some, before_none}
use Rattle.gt_select.proofs.waiters.Waiters.before.Goals as goal

pub unwrap-key-requires : goal.unwrap-key-requires
unwrap-key-requires c =
    let f = c.self.inside in
    rw c.at.ensures (has_key f.goroutines f.turns f.keys f.places f.tickets f.queues c.self.invariant.0 c.self.invariant.1 c.args.list c.args.p (rw (← c.self.view_is) at c.requires))

pub overflow_add-key : goal.overflow_add-key
overflow_add-key c =
    let f = c.self.inside in
    let known : get_or f.keys c.args.p.g None ≡ Some c.unwrap-key.result = sym c.at.ensures ∙ c.unwrap-key.ensures in
    let s = stands_at f.goroutines f.turns f.keys f.places f.tickets f.queues c.self.invariant.0 c.self.invariant.1 c.args.list c.args.p (rw (← c.self.view_is) at c.requires) c.unwrap-key.result known in
    let below = s.below in
    let few = c.self.invariant.1.few in
    omega arith

pub prev_in-requires : goal.prev_in-requires
prev_in-requires c =
    let f = c.self.inside in
    let known : get_or f.keys c.args.p.g None ≡ Some c.unwrap-key.result = sym c.at.ensures ∙ c.unwrap-key.ensures in
    let s = stands_at f.goroutines f.turns f.keys f.places f.tickets f.queues c.self.invariant.0 c.self.invariant.1 c.args.list c.args.p (rw (← c.self.view_is) at c.requires) c.unwrap-key.result known in
    (c.args.list, s.stands)

pub returns-in_err-node : goal.returns-in_err-node
returns-in_err-node c =
    let f = c.self.inside in
    let key = c.unwrap-key.result in
    let known : get_or f.keys c.args.p.g None ≡ Some key = sym c.at.ensures ∙ c.unwrap-key.ensures in
    let s = stands_at f.goroutines f.turns f.keys f.places f.tickets f.queues c.self.invariant.0 c.self.invariant.1 c.args.list c.args.p (rw (← c.self.view_is) at c.requires) key known in
    let found : None ≡ last_or None (in_front (waiting_in f.queues.queues c.args.list) (key * 17 + c.args.p.case_no)) = c.in_err-node.ensures c.args.list s.stands in
    rw (← c.self.view_is)
    (c.from_residual.ensures ∙ before_none f.goroutines f.turns f.keys f.places f.tickets f.queues c.self.invariant.0 c.self.invariant.1 c.args.list c.args.p key known s.small found)

pub returns : goal.returns
returns c =
    let f = c.self.inside in
    let key = c.unwrap-key.result in
    let known : get_or f.keys c.args.p.g None ≡ Some key = sym c.at.ensures ∙ c.unwrap-key.ensures in
    let s = stands_at f.goroutines f.turns f.keys f.places f.tickets f.queues c.self.invariant.0 c.self.invariant.1 c.args.list c.args.p (rw (← c.self.view_is) at c.requires) key known in
    let found : Some c.in_ok-node.node ≡ last_or None (in_front (waiting_in f.queues.queues c.args.list) (key * 17 + c.args.p.case_no)) = c.in_ok-node.ensures c.args.list s.stands in
    rw (← c.self.view_is)
    (ap Some c.party_at.ensures ∙ before_some f.goroutines f.turns f.keys f.places f.tickets f.queues c.self.invariant.0 c.self.invariant.1 c.args.list c.args.p key c.in_ok-node.node known s.small found)
