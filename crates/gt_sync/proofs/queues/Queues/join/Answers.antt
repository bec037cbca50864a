use Rattle.std.proofs.Common.{◌≡◌, ◌≢◌, ◌∙◌, sym, arith, [], Some, None}
use Rattle.std.specs.List.{slice_get}
use Rattle.gt_sync.proofs.Shown.{MayPark-free, waiting_in-shown, waiting_of-joined}
use Rattle.gt_sync.proofs.Room.{some_free, some_first}
use Rattle.gt_sync.proofs.Numbers.{IsChosen-drawn, IsKept-filled, Changes-set, free_numbers, queue_at, joined_not_empty, queue_there}
use Rattle.gt_sync.proofs.queues.Queues.join.Goals as goal

pub enqueue-requires-clause-free : goal.enqueue-requires-clause-free
enqueue-requires-clause-free c =
    MayPark-free c.self.inside.waiting c.args.g (rw (← c.self.view_is) at c.requires.may_park)

pub unwrap-number-requires : goal.unwrap-number-requires
unwrap-number-requires c =
    let w = c.self.inside.waiting in
    let may = rw (← c.self.view_is) at c.requires.may_park in
    let some = c.self.invariant.some in
    let last = may.last in
    some_first c.dequeue.result (free_numbers c.self.inside.free) c.dequeue.ensures.first
    (some_free w c.self.inside.free c.args.g c.self.invariant c.lawful.ensures (omega arith) (MayPark-free w c.args.g may))

pub overflow_add-number-2 : goal.overflow_add-number-2
overflow_add-number-2 c =
    let first : Some c.unwrap-number.result ≡ slice_get (free_numbers c.self.inside.free) 0 = sym c.unwrap-number.ensures ∙ c.dequeue.ensures.first in
    let chosen = IsChosen-drawn c.self.inside.waiting c.self.inside.free c.dequeue.new.self c.unwrap-number.result c.self.invariant c.lawful-2.ensures first c.dequeue.ensures.queues c.dequeue.ensures.members in
    let there = chosen.there in
    let few = c.self.invariant.few in
    omega arith

pub enqueue-requires-2-clause-queue : goal.enqueue-requires-2-clause-queue
enqueue-requires-2-clause-queue c =
    let first : Some c.unwrap-number.result ≡ slice_get (free_numbers c.self.inside.free) 0 = sym c.unwrap-number.ensures ∙ c.dequeue.ensures.first in
    let chosen = IsChosen-drawn c.self.inside.waiting c.self.inside.free c.dequeue.new.self c.unwrap-number.result c.self.invariant c.lawful-2.ensures first c.dequeue.ensures.queues c.dequeue.ensures.members in
    let there = chosen.there in
    let lists = c.self.invariant.lists in
    omega arith

pub enqueue-requires-2-clause-free : goal.enqueue-requires-2-clause-free
enqueue-requires-2-clause-free c =
    MayPark-free c.self.inside.waiting c.args.g (rw (← c.self.view_is) at c.requires.may_park)

pub invariant_of-self-2 : goal.invariant_of-self-2
invariant_of-self-2 c =
    let w = c.self.inside.waiting in
    let n = c.unwrap-number.result in
    let first : Some n ≡ slice_get (free_numbers c.self.inside.free) 0 = sym c.unwrap-number.ensures ∙ c.dequeue.ensures.first in
    let chosen = IsChosen-drawn w c.self.inside.free c.dequeue.new.self n c.self.invariant c.lawful-2.ensures first c.dequeue.ensures.queues c.dequeue.ensures.members in
    IsKept-filled w c.self.inside.free c.enqueue-2.new.self c.dequeue.new.self None n c.self.invariant chosen
    (Changes-set w c.enqueue-2.new.self n _ c.enqueue-2.ensures.queues c.enqueue-2.ensures.members)
    (joined_not_empty w c.enqueue-2.new.self n c.args.g c.self.invariant.lists chosen.there c.enqueue-2.ensures.queues)

pub returns-in-Some-clause-here : goal.returns-in-Some-clause-here
returns-in-Some-clause-here c =
    let w = c.self.inside.waiting in
    let n = c.in-Some.number in
    let here = rw (c.in-Some.is, ← c.self.view_is) at c.requires.here in
    let some : queue_at w n ≢ [] = rw (waiting_in-shown w.queues n) at here in
    rw (c.in-Some.is, waiting_in-shown c.enqueue.new.self.queues n)
    (joined_not_empty w c.enqueue.new.self n c.args.g c.self.invariant.lists (queue_there w n c.self.invariant.lists some) c.enqueue.ensures.queues)

pub returns : goal.returns
returns c =
    let w = c.self.inside.waiting in
    let n = c.unwrap-number.result in
    let first : Some n ≡ slice_get (free_numbers c.self.inside.free) 0 = sym c.unwrap-number.ensures ∙ c.dequeue.ensures.first in
    let chosen = IsChosen-drawn w c.self.inside.free c.dequeue.new.self n c.self.invariant c.lawful-2.ensures first c.dequeue.ensures.queues c.dequeue.ensures.members in
    record {
      parks = rw (← c.self.view_is) (rw c.in_default.is chosen.fits, waiting_of-joined w c.enqueue-2.new.self n c.args.g c.enqueue-2.ensures.queues c.enqueue-2.ensures.members);
      here =
          rw (waiting_in-shown c.enqueue-2.new.self.queues n)
          (joined_not_empty w c.enqueue-2.new.self n c.args.g c.self.invariant.lists chosen.there c.enqueue-2.ensures.queues);
    }
