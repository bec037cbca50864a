use Rattle.std.proofs.Common.{◌≢◌, []}
use Rattle.gt_sync.proofs.Shown.{waiting_in-shown}
use Rattle.gt_sync.proofs.Numbers.{queue_at, used_not_free, IsKept-returned, Changes-both, emptied}
use Rattle.gt_sync.proofs.queues.Queues.wake_all.Goals as goal

pub enqueue-requires-clause-free : goal.enqueue-requires-clause-free
enqueue-requires-clause-free c =
    let here = rw (c.in-Some.is, ← c.self.view_is) at c.requires in
    used_not_free c.self.inside.waiting c.self.inside.free c.in-Some.number c.self.invariant
    (rw (waiting_in-shown c.self.inside.waiting.queues c.in-Some.number) at here)

pub invariant_of-self : goal.invariant_of-self
invariant_of-self c =
    let w = c.self.inside.waiting in
    let n = c.in-Some.number in
    let here = rw (c.in-Some.is, ← c.self.view_is) at c.requires in
    let some : queue_at w n ≢ [] = rw (waiting_in-shown w.queues n) at here in
    IsKept-returned w c.self.inside.free c.move_all-count.new.queues c.enqueue.new.self n c.self.invariant
    (Changes-both w c.move_all-count.new.queues n _ _ c.move_all-count.ensures.queues c.move_all-count.ensures.members)
    some
    (emptied w c.move_all-count.new.queues n c.self.invariant.lists some _ c.move_all-count.ensures.queues)
    c.enqueue.ensures.queues
    c.enqueue.ensures.members
