use Rattle.std.proofs.Common.{◌≡◌, ◌+◌, ◌*◌, ◌/◌, ◌%◌, ◌<◌, ◌≤◌, Some, None, IsSome, get_or, sym, ap, ◌∙◌, arith}
use Rattle.slab.specs.Slab.{get}
use Rattle.gt_queue.specs.Contents.{IsWaiting}
use Rattle.gt_queue.proofs.PutBefore.{waited_or_inserted}
use Rattle.gt_select.specs.declared.nodes.Waiter.{Waiter}
use Rattle.gt_select.specs.Kept.{lists_of, turns_of, AreTickets, ArePlaced}
use Rattle.gt_select.proofs.Parties.{key_of-node, party_at-node, ticketed}
use Rattle.gt_select.proofs.Places.{ArePlaced-joined}
use Rattle.gt_select.proofs.Noted.{noted_node, lists_of-noted, turns_of-noted, AreTickets-noted, ArePlaced-noted}
use Rattle.gt_select.proofs.Shown.{shown, node_free}
use Rattle.gt_select.proofs.InFront.{has_key, stands_at, lists_of-inserted}
use Rattle.gt_select.proofs.waiters.Waiters.wait_before.Goals as goal

pub unwrap-other_key-requires : goal.unwrap-other_key-requires
unwrap-other_key-requires c =
    let f = c.self.inside in
    rw c.at-2.ensures (has_key f.goroutines f.turns f.keys f.places f.tickets f.queues c.self.invariant.0 c.self.invariant.1 c.args.list c.args.other (rw (← c.self.view_is) at c.requires.other))

pub overflow_add-other_key : goal.overflow_add-other_key
overflow_add-other_key c =
    let f = c.self.inside in
    let other_key = c.unwrap-other_key.result in
    let other_known : get_or f.keys c.args.other.g None ≡ Some other_key = sym c.at-2.ensures ∙ c.unwrap-other_key.ensures in
    let s = stands_at f.goroutines f.turns f.keys f.places f.tickets f.queues c.self.invariant.0 c.self.invariant.1 c.args.list c.args.other (rw (← c.self.view_is) at c.requires.other) other_key other_known in
    let below = s.below in
    let few = c.self.invariant.1.few in
    omega arith

pub enqueue_before-requires-clause-free : goal.enqueue_before-requires-clause-free
enqueue_before-requires-clause-free c =
    let f = c.self.inside in
    let key = c.unwrap-key.result in
    let known : get_or f.keys c.args.p.g None ≡ Some key = sym c.at.ensures ∙ c.unwrap-key.ensures in
    let own = party_at-node f.goroutines f.turns f.keys f.tickets c.self.invariant.0 c.args.p key known c.requires.may_wait.case_no in
    node_free f.goroutines f.turns f.keys f.places f.tickets f.queues c.self.invariant.0 c.self.invariant.1 c.args.p (key * 17 + c.args.p.case_no) own
    (rw (← c.self.view_is) at c.requires.may_wait.waits_nowhere)

pub enqueue_before-requires-clause-other : goal.enqueue_before-requires-clause-other
enqueue_before-requires-clause-other c =
    let f = c.self.inside in
    let other_key = c.unwrap-other_key.result in
    let other_known : get_or f.keys c.args.other.g None ≡ Some other_key = sym c.at-2.ensures ∙ c.unwrap-other_key.ensures in
    let s = stands_at f.goroutines f.turns f.keys f.places f.tickets f.queues c.self.invariant.0 c.self.invariant.1 c.args.list c.args.other (rw (← c.self.view_is) at c.requires.other) other_key other_known in
    s.stands

pub invariant_of-self : goal.invariant_of-self
invariant_of-self c =
    let f = c.self.inside in
    let key = c.unwrap-key.result in
    let case_no = c.args.p.case_no in
    let node = key * 17 + case_no in
    let known : get_or f.keys c.args.p.g None ≡ Some key = sym c.at.ensures ∙ c.unwrap-key.ensures in
    let small = c.requires.may_wait.case_no in
    let own = party_at-node f.goroutines f.turns f.keys f.tickets c.self.invariant.0 c.args.p key known small in
    let free : ¬ IsWaiting f.queues.queues node =
    node_free f.goroutines f.turns f.keys f.places f.tickets f.queues c.self.invariant.0 c.self.invariant.1 c.args.p node own
    (rw (← c.self.view_is) at c.requires.may_wait.waits_nowhere) in
    let other_key = c.unwrap-other_key.result in
    let other_known : get_or f.keys c.args.other.g None ≡ Some other_key = sym c.at-2.ensures ∙ c.unwrap-other_key.ensures in
    let s = stands_at f.goroutines f.turns f.keys f.places f.tickets f.queues c.self.invariant.0 c.self.invariant.1 c.args.list c.args.other (rw (← c.self.view_is) at c.requires.other) other_key other_known in
    let t = c.self.invariant.0.keyed c.args.p.g key known in
    let low = c.self.invariant.0.inside key t.0 t.1 in
    let nodes = c.self.invariant.1.nodes in
    let below : node < f.queues.members = omega arith in
    let after = c.note.new.tickets in
    let noted = c.note.ensures t.0 t.1 in
    let are : AreTickets f.goroutines f.turns f.keys after = rw noted (AreTickets-noted f.tickets key case_no t.0 t.1 f.goroutines f.turns f.keys c.self.invariant.0) in
    let placed : ArePlaced f.places after f.queues = rw noted (ArePlaced-noted f.tickets key case_no t.0 t.1 f.places f.queues small c.self.invariant.1) in
    let ticket : IsSome (get after (node / 17)) = rw (key_of-node key case_no small) (ticketed f.goroutines f.turns f.keys after are c.args.p.g key known) in
    let top : (w : Waiter) → get after (node / 17) ≡ Some w → node % 17 ≤ w.most = rw noted (noted_node f.tickets key case_no t.0 t.1 small) in (
      are,
      rw c.set.ensures (ArePlaced-joined f.places after f.queues c.enqueue_before.new.self placed c.enqueue_before.ensures.members c.args.list node below free ticket top
          (λ q y h. waited_or_inserted f.queues.queues c.args.list (other_key * 17 + c.args.other.case_no) node s.stands q y (rw c.enqueue_before.ensures.queues at h))),
    )

pub returns : goal.returns
returns c =
    let f = c.self.inside in
    let key = c.unwrap-key.result in
    let case_no = c.args.p.case_no in
    let known : get_or f.keys c.args.p.g None ≡ Some key = sym c.at.ensures ∙ c.unwrap-key.ensures in
    let small = c.requires.may_wait.case_no in
    let other_key = c.unwrap-other_key.result in
    let other_known : get_or f.keys c.args.other.g None ≡ Some other_key = sym c.at-2.ensures ∙ c.unwrap-other_key.ensures in
    let s = stands_at f.goroutines f.turns f.keys f.places f.tickets f.queues c.self.invariant.0 c.self.invariant.1 c.args.list c.args.other (rw (← c.self.view_is) at c.requires.other) other_key other_known in
    let t = c.self.invariant.0.keyed c.args.p.g key known in
    let after = c.note.new.tickets in
    let noted = c.note.ensures t.0 t.1 in
    let are : AreTickets f.goroutines f.turns f.keys after = rw noted (AreTickets-noted f.tickets key case_no t.0 t.1 f.goroutines f.turns f.keys c.self.invariant.0) in
    let placed : ArePlaced f.places after f.queues = rw noted (ArePlaced-noted f.tickets key case_no t.0 t.1 f.places f.queues small c.self.invariant.1) in
    let own = party_at-node f.goroutines f.turns f.keys after are c.args.p key known small in
    let lists : lists_of after f.queues.queues ≡ lists_of f.tickets f.queues.queues = rw noted (lists_of-noted f.tickets key case_no t.0 t.1 f.queues.queues) in
    let tickets : turns_of after f.keys ≡ turns_of f.tickets f.keys = rw noted (turns_of-noted f.tickets key case_no t.0 t.1 f.keys) in
    let joined = lists_of-inserted f.goroutines f.turns f.keys f.places after f.queues are placed c.enqueue_before.new.self.queues c.args.list (key * 17 + case_no) other_key c.args.p c.args.other c.enqueue_before.ensures.queues own other_known s.small in
    rw (← c.self.view_is, ← tickets, ← lists)
    (ap (λ ls. shown ls (turns_of after f.keys) f.turns f.goroutines) joined)
