use Rattle.std.proofs.Common.{◌≡◌, ◌+◌, ◌*◌, ◌/◌, ◌%◌, ◌<◌, ◌≤◌, Some, None, IsSome, get_or, length, map, sym, ap, ◌∙◌, arith}
use Rattle.std.proofs.lemmas.List.{length-map}
use Rattle.slab.specs.Slab.{get}
use Rattle.gt_queue.specs.Contents.{IsWaiting}
use Rattle.gt_queue.proofs.Waiting.{waited_or_pushed}
use Rattle.gt_select.specs.declared.nodes.Waiter.{Waiter}
use Rattle.gt_select.specs.Kept.{party_at, lists_of, turns_of, AreTickets, ArePlaced}
use Rattle.gt_select.proofs.Parties.{key_of-node, party_at-node, ticketed}
use Rattle.gt_select.proofs.Places.{ArePlaced-joined}
use Rattle.gt_select.proofs.Noted.{noted_node, lists_of-noted, turns_of-noted, AreTickets-noted, ArePlaced-noted}
use Rattle.gt_select.proofs.Shown.{shown, node_free, lists_of-joined}
use Rattle.gt_select.proofs.waiters.Waiters.wait.Goals as goal

pub enqueue-requires-clause-free : goal.enqueue-requires-clause-free
enqueue-requires-clause-free c =
    let f = c.self.inside in
    let key = c.unwrap-key.result in
    let known : get_or f.keys c.args.p.g None ≡ Some key = sym c.at.ensures ∙ c.unwrap-key.ensures in
    let own = party_at-node f.goroutines f.turns f.keys f.tickets c.self.invariant.0 c.args.p key known c.requires.may_wait.case_no in
    node_free f.goroutines f.turns f.keys f.places f.tickets f.queues c.self.invariant.0 c.self.invariant.1 c.args.p (key * 17 + c.args.p.case_no) own
    (rw (← c.self.view_is) at c.requires.may_wait.waits_nowhere)

pub invariant_of-self : goal.invariant_of-self
invariant_of-self c =
    let f = c.self.inside in
    let key = c.unwrap-key.result in
    let case_no = c.args.p.case_no in
    let node = key * 17 + case_no in
    let known : get_or f.keys c.args.p.g None ≡ Some key = sym c.at.ensures ∙ c.unwrap-key.ensures in
    let small = c.requires.may_wait.case_no in
    let own = party_at-node f.goroutines f.turns f.keys f.tickets c.self.invariant.0 c.args.p key known small in
    let free : ¬ IsWaiting f.queues.queues node =
    node_free f.goroutines f.turns f.keys f.places f.tickets f.queues c.self.invariant.0 c.self.invariant.1 c.args.p node own
    (rw (← c.self.view_is) at c.requires.may_wait.waits_nowhere) in
    let t = c.self.invariant.0.keyed c.args.p.g key known in
    let low = c.self.invariant.0.inside key t.0 t.1 in
    let nodes = c.self.invariant.1.nodes in
    let below : node < f.queues.members = omega arith in
    let size = length-map f.queues.queues (map (party_at f.tickets)) in
    let inside : c.args.list < length f.queues.queues = rw (← c.self.view_is, size) at c.requires.list in
    let after = c.note.new.tickets in
    let noted = c.note.ensures t.0 t.1 in
    let are : AreTickets f.goroutines f.turns f.keys after = rw noted (AreTickets-noted f.tickets key case_no t.0 t.1 f.goroutines f.turns f.keys c.self.invariant.0) in
    let placed : ArePlaced f.places after f.queues = rw noted (ArePlaced-noted f.tickets key case_no t.0 t.1 f.places f.queues small c.self.invariant.1) in
    let ticket : IsSome (get after (node / 17)) = rw (key_of-node key case_no small) (ticketed f.goroutines f.turns f.keys after are c.args.p.g key known) in
    let top : (w : Waiter) → get after (node / 17) ≡ Some w → node % 17 ≤ w.most = rw noted (noted_node f.tickets key case_no t.0 t.1 small) in (
      are,
      rw c.set.ensures (ArePlaced-joined f.places after f.queues c.enqueue.new.self placed c.enqueue.ensures.members c.args.list node below free ticket top
          (λ q y h. waited_or_pushed f.queues.queues c.args.list node q y inside (rw c.enqueue.ensures.queues at h))),
    )

pub returns : goal.returns
returns c =
    let f = c.self.inside in
    let key = c.unwrap-key.result in
    let case_no = c.args.p.case_no in
    let known : get_or f.keys c.args.p.g None ≡ Some key = sym c.at.ensures ∙ c.unwrap-key.ensures in
    let small = c.requires.may_wait.case_no in
    let t = c.self.invariant.0.keyed c.args.p.g key known in
    let after = c.note.new.tickets in
    let noted = c.note.ensures t.0 t.1 in
    let are : AreTickets f.goroutines f.turns f.keys after = rw noted (AreTickets-noted f.tickets key case_no t.0 t.1 f.goroutines f.turns f.keys c.self.invariant.0) in
    let placed : ArePlaced f.places after f.queues = rw noted (ArePlaced-noted f.tickets key case_no t.0 t.1 f.places f.queues small c.self.invariant.1) in
    let own = party_at-node f.goroutines f.turns f.keys after are c.args.p key known small in
    let lists : lists_of after f.queues.queues ≡ lists_of f.tickets f.queues.queues = rw noted (lists_of-noted f.tickets key case_no t.0 t.1 f.queues.queues) in
    let tickets : turns_of after f.keys ≡ turns_of f.tickets f.keys = rw noted (turns_of-noted f.tickets key case_no t.0 t.1 f.keys) in
    let joined = lists_of-joined f.goroutines f.turns f.keys f.places after f.queues are placed c.enqueue.new.self.queues c.args.list (key * 17 + case_no) c.args.p c.enqueue.ensures.queues own in
    rw (← c.self.view_is, ← tickets, ← lists)
    (ap (λ ls. shown ls (turns_of after f.keys) f.turns f.goroutines) joined)
