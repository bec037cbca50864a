use Rattle.std.proofs.Common.{◌≡◌, ◌<◌, ◌≤◌, arith}
use Rattle.std.proofs.lemmas.Bool.{lt-ltb, le-ltb}
use Rattle.gt_select.specs.Waiting.{parties_in}
use Rattle.gt_schedule.specs.Schedule.{is_later, since_of}
use Rattle.gt_schedule.specs.Scheduler.{schedule_of}
use Rattle.gt_schedule.proofs.Places.{Found, looks-first, looks-at, looks-contains, looks-next, looks-shorter, found-before, found-end, found-none, found-some}
use Rattle.gt_schedule.proofs.scheduler.Scheduler.first_later.Goals as goal
use Rattle.gt_schedule.proofs.scheduler.Scheduler.first_later.Goals.{Then-since_of-since, In_default}

pub loop-next-init : goal.loop-next-init
loop-next-init c =
    looks-first (is_later (schedule_of c.args.self.now) c.args.g) (parties_in c.args.self.now.waiters.lists c.args.list) c.last-next.result c.last-next.ensures.last

pub before-next-requires : goal.before-next-requires
before-next-requires c =
    let later = is_later (schedule_of c.args.self.now) c.args.g in
    let xs = parties_in c.args.self.now.waiters.lists c.args.list in
    looks-contains later xs c.in-Some.p (looks-at later xs c.loop-next.foremost c.in-Some.p (c.lawful.ensures.once c.args.list) (rw c.in-Some.is at c.loop-next.invariant))

pub loop-next-smaller : goal.loop-next-smaller
loop-next-smaller c =
    let later = is_later (schedule_of c.args.self.now) c.args.g in
    let xs = parties_in c.args.self.now.waiters.lists c.args.list in
    rw c.in-Some.is (looks-shorter later xs c.in-Some.p c.before-next.result (c.lawful.ensures.once c.args.list)
    (looks-at later xs c.loop-next.foremost c.in-Some.p (c.lawful.ensures.once c.args.list) (rw c.in-Some.is at c.loop-next.invariant)) c.before-next.ensures)

pub loop-next-preserved : goal.loop-next-preserved
loop-next-preserved c =
    let m = schedule_of c.args.self.now in
    let later = is_later m c.args.g in
    let xs = parties_in c.args.self.now.waiters.lists c.args.list in
    let p = c.in-Some.p in
    let since : c.since_of-since.result ≡ since_of m c.args.g = c.since_of-since.ensures in
    let at : c.since_of.result ≡ since_of m p.g = c.since_of.ensures in
    let after : c.since_of-since.result < c.since_of.result = c.if-since_of-since.false in
    looks-next later xs p c.before-next.result
    (looks-at later xs c.loop-next.foremost p (c.lawful.ensures.once c.args.list) (rw c.in-Some.is at c.loop-next.invariant))
    (lt-ltb (since_of m c.args.g) (since_of m p.g) (omega arith)) c.before-next.ensures

-- the search stops at a party that is not later
stops : (c : Then-since_of-since) → Found (is_later (schedule_of c.args.self.now) c.args.g) (parties_in c.args.self.now.waiters.lists c.args.list) c.loop-next.foremost
stops c =
    let m = schedule_of c.args.self.now in
    let p = c.in-Some.p in
    let since : c.since_of-since.result ≡ since_of m c.args.g = c.since_of-since.ensures in
    let at : c.since_of.result ≡ since_of m p.g = c.since_of.ensures in
    let early : c.since_of.result ≤ c.since_of-since.result = c.if-since_of-since.true in
    found-before (is_later m c.args.g) (parties_in c.args.self.now.waiters.lists c.args.list) c.loop-next.foremost p (rw c.in-Some.is at c.loop-next.invariant)
    (le-ltb (since_of m c.args.g) (since_of m p.g) (omega arith))

pub returns-then-since_of-since-clause-none : goal.returns-then-since_of-since-clause-none
returns-then-since_of-since-clause-none c =
    found-none (is_later (schedule_of c.args.self.now) c.args.g) (parties_in c.args.self.now.waiters.lists c.args.list) c.loop-next.foremost (stops c)

pub returns-then-since_of-since-clause-some : goal.returns-then-since_of-since-clause-some
returns-then-since_of-since-clause-some c =
    found-some (is_later (schedule_of c.args.self.now) c.args.g) (parties_in c.args.self.now.waiters.lists c.args.list) c.loop-next.foremost (c.lawful.ensures.once c.args.list) (stops c)

-- or where nobody is left
ends : (c : In_default) → Found (is_later (schedule_of c.args.self.now) c.args.g) (parties_in c.args.self.now.waiters.lists c.args.list) c.loop-next.foremost
ends c =
    found-end (is_later (schedule_of c.args.self.now) c.args.g) (parties_in c.args.self.now.waiters.lists c.args.list) c.loop-next.foremost c.loop-next.next c.loop-next.invariant
    c.in_default.is

pub returns-clause-none : goal.returns-clause-none
returns-clause-none c =
    found-none (is_later (schedule_of c.args.self.now) c.args.g) (parties_in c.args.self.now.waiters.lists c.args.list) c.loop-next.foremost (ends c)

pub returns-clause-some : goal.returns-clause-some
returns-clause-some c =
    found-some (is_later (schedule_of c.args.self.now) c.args.g) (parties_in c.args.self.now.waiters.lists c.args.list) c.loop-next.foremost (c.lawful.ensures.once c.args.list) (ends c)
