use Rattle.std.proofs.Common.{◌≡◌, ◌∙◌, refl}
use Rattle.gt_queue.proofs.Callers.{Contains-first}
use Rattle.gt_sync.proofs.Moves.{IsMoving-start, IsMoving-step, left_is_free, moved_on}
use Rattle.gt_sync.proofs.moving.move_all.Goals as goal

pub loop-member-init : goal.loop-member-init
loop-member-init c = record {
  moving = IsMoving-start c.args.queues.now.queues c.args.from c.args.to c.args.queues.now.members c.lawful.ensures;
  members = refl;
}

pub enqueue-requires-clause-member : goal.enqueue-requires-clause-member
enqueue-requires-clause-member c =
    let l = c.loop-member in
    rw c.in-Some.ensures.members
    (l.invariant.moving.lawful.below c.args.from c.in-Some.member (Contains-first l.queues.queues c.args.from c.in-Some.member c.in-Some.ensures.first))

pub enqueue-requires-clause-free : goal.enqueue-requires-clause-free
enqueue-requires-clause-free c =
    let l = c.loop-member in
    rw c.in-Some.ensures.queues
    (left_is_free l.queues.queues c.args.from c.in-Some.member l.queues.members c.in-Some.ensures.first l.invariant.moving.lawful)

pub loop-member-preserved : goal.loop-member-preserved
loop-member-preserved c =
    let l = c.loop-member in
    let m = c.in-Some.member in
    let members : c.enqueue.new.self.members ≡ l.queues.members = c.enqueue.ensures.members ∙ c.in-Some.ensures.members in
    let queues : c.enqueue.new.self.queues ≡ moved_on l.queues.queues c.args.from c.args.to m = rw c.in-Some.ensures.queues at c.enqueue.ensures.queues in
    record {
      moving =
          rw (queues, members)
          (IsMoving-step c.args.queues.now.queues l.queues.queues c.args.from c.args.to l.count l.queues.members m c.requires.apart c.requires.from c.requires.to c.in-Some.ensures.first l.invariant.moving
          (rw (queues, members) at c.lawful-in-Some.ensures));
      members = members ∙ l.invariant.members;
    }
