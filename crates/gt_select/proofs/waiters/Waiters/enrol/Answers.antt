use Rattle.std.proofs.Common.{rules, ◌≡◌, ◌≤◌, None, get_or, refl, ap, ◌∙◌}
use Rattle.slab.specs.Slab.{get}
use Rattle.gt_select.specs.Kept.{lists_of, turns_of}
use Rattle.gt_select.specs.Waiting.{next_turn}
use Rattle.gt_select.proofs.Tickets.{no_key, has_room, AreTickets-given, turns_of-given}
use Rattle.gt_select.proofs.Places.{ArePlaced-given}
use Rattle.gt_select.proofs.Shown.{shown, lists_of-given}
use Rattle.gt_select.proofs.waiters.Waiters.enrol.Goals as goal

pub insert_reserved-key-requires : goal.insert_reserved-key-requires
insert_reserved-key-requires c =
    let f = c.self.inside in
    let none : get_or f.keys c.args.g None ≡ None = no_key f.goroutines f.turns f.keys f.tickets c.self.invariant.0 c.args.g (rw (← c.self.view_is) at c.requires.none) in
    let last : c.args.g ≤ f.goroutines = rw (← c.self.view_is) at c.requires.last in
    has_room f.goroutines f.turns f.keys f.tickets c.self.invariant.0 c.args.g last none

pub invariant_of-self : goal.invariant_of-self
invariant_of-self c =
    let f = c.self.inside in
    let e = c.insert_reserved-key.ensures in
    let key = c.insert_reserved-key.result in
    let vacant : get f.tickets key ≡ None = e.was_vacant in
    let none : get_or f.keys c.args.g None ≡ None = no_key f.goroutines f.turns f.keys f.tickets c.self.invariant.0 c.args.g (rw (← c.self.view_is) at c.requires.none) in
    let last : c.args.g ≤ f.goroutines = rw (← c.self.view_is) at c.requires.last in
    let next : c.saturating_add-self-inside.result ≡ next_turn f.turns = search rules in (
      rw (c.set.ensures, next) (AreTickets-given f.goroutines f.turns f.keys f.tickets c.self.invariant.0 c.args.g key (record { g = c.args.g; most = 0; turn = f.turns }) c.insert_reserved-key.new.self none last vacant e.updates refl refl e.len e.key_in_range e.capacity),
      ArePlaced-given f.places f.tickets c.insert_reserved-key.new.self f.queues key (record { g = c.args.g; most = 0; turn = f.turns }) c.self.invariant.1 vacant refl e.updates e.capacity,
    )

pub returns-clause-waiters : goal.returns-clause-waiters
returns-clause-waiters c =
    let f = c.self.inside in
    let e = c.insert_reserved-key.ensures in
    let key = c.insert_reserved-key.result in
    let t' = c.insert_reserved-key.new.self in
    let vacant : get f.tickets key ≡ None = e.was_vacant in
    let none : get_or f.keys c.args.g None ≡ None = no_key f.goroutines f.turns f.keys f.tickets c.self.invariant.0 c.args.g (rw (← c.self.view_is) at c.requires.none) in
    let last : c.args.g ≤ f.goroutines = rw (← c.self.view_is) at c.requires.last in
    let next : c.saturating_add-self-inside.result ≡ next_turn f.turns = search rules in
    rw (← c.self.view_is, next)
    (ap (λ lists. shown lists (turns_of t' c.set.new.self) (next_turn f.turns) f.goroutines)
    (lists_of-given f.goroutines f.turns f.keys f.places f.tickets f.queues c.self.invariant.0 c.self.invariant.1 t' key (record { g = c.args.g; most = 0; turn = f.turns }) vacant e.updates)
    ∙ ap (λ tickets. shown (lists_of f.tickets f.queues.queues) tickets (next_turn f.turns) f.goroutines)
    (ap (turns_of t') c.set.ensures ∙ turns_of-given f.goroutines f.turns f.keys f.tickets c.self.invariant.0 c.args.g key (record { g = c.args.g; most = 0; turn = f.turns }) t' none last vacant e.updates refl))
