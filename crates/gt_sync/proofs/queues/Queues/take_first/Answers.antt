use Rattle.std.proofs.Common.{rules, ◌≡◌, ◌≢◌, []}
use Rattle.gt_sync.proofs.Shown.{waiting_in-shown}
use Rattle.gt_sync.proofs.Numbers.{queue_at, used_not_free, IsKept-returned, Changes-set}
use Rattle.gt_sync.proofs.queues.Queues.take_first.Goals as goal

pub enqueue-requires-clause-free : goal.enqueue-requires-clause-free
enqueue-requires-clause-free c =
    let here = rw (c.in_ok-number.was, ← c.self.view_is) at c.requires in
    used_not_free c.self.inside.waiting c.self.inside.free c.in_ok-number.number c.self.invariant
    (rw (waiting_in-shown c.self.inside.waiting.queues c.in_ok-number.number) at here)

pub invariant_of-self : goal.invariant_of-self
invariant_of-self c =
    let w = c.self.inside.waiting in
    let n = c.in_ok-number.number in
    let here = rw (c.in_ok-number.was, ← c.self.view_is) at c.requires in
    let some : queue_at w n ≢ [] = rw (waiting_in-shown w.queues n) at here in
    let none : queue_at c.dequeue-first.new.self n ≡ [] = search rules in
    IsKept-returned w c.self.inside.free c.dequeue-first.new.self c.enqueue.new.self n c.self.invariant
    (Changes-set w c.dequeue-first.new.self n _ c.dequeue-first.ensures.queues c.dequeue-first.ensures.members)
    some
    none
    c.enqueue.ensures.queues
    c.enqueue.ensures.members
