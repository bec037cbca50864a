use Rattle.std.proofs.Common.{◌≡◌, ◌+◌, ◌≤◌, length, sym, ap, subst, ◌∙◌}
use Rattle.gt_rules.specs.Change.{change_of}
use Rattle.gt_schedule.specs.Scheduler.{schedule_of, capacity, IsOrderly}
use Rattle.gt_schedule.proofs.Moving.{HasMoved, HasSignalled, moved-some, moved-none, signalled-some, signalled-none, orderly-moved, orderly-all_moved, spare-all_moved}
use Rattle.gt_schedule.proofs.scheduler.Scheduler.apply.Goals as goal
use Rattle.gt_schedule.proofs.scheduler.Scheduler.apply.Goals.{in-Some, in_default, in-Some-partner_of, in_default-partner_of, in-Some-broadcast_of, in_default-broadcast_of}

pub turn-requires-in-Some-partner_of-clause-orderly : goal.turn-requires-in-Some-partner_of-clause-orderly
turn-requires-in-Some-partner_of-clause-orderly c =
    let m = c.args.self.now in
    let mid = c.match-mover_of.self in
    let mover = (change_of c.args.entry.now).mover in
    let first : HasMoved m mid mover = elim c.match-mover_of.branch [
      | in-Some w ↦ moved-some m mid w.turn.new.self mover c.mover_of.result w.in-Some.g w.in-Some.step c.mover_of.ensures w.in-Some.is w.self-is w.turn.ensures.schedule w.turn.ensures.room
      | in_default w ↦ moved-none m mid mover c.mover_of.result c.mover_of.ensures w.in_default.is w.self-is
    ] in
    subst IsOrderly (sym first.schedule) (orderly-moved (schedule_of m) mover c.requires.orderly c.requires.served.0)

-- what the mover has done, and what the partner
first-is : (c : goal.After-start_count) → HasMoved c.args.self.now c.match-mover_of.self (change_of c.args.entry.now).mover
first-is c =
    let m = c.args.self.now in
    let mid = c.match-mover_of.self in
    let mover = (change_of c.args.entry.now).mover in
    elim c.match-mover_of.branch [
      | in-Some w ↦ moved-some m mid w.turn.new.self mover c.mover_of.result w.in-Some.g w.in-Some.step c.mover_of.ensures w.in-Some.is w.self-is w.turn.ensures.schedule w.turn.ensures.room
      | in_default w ↦ moved-none m mid mover c.mover_of.result c.mover_of.ensures w.in_default.is w.self-is
    ]

second-is : (c : goal.After-start_count) → HasMoved c.match-mover_of.self c.match-partner_of.self (change_of c.args.entry.now).partner
second-is c =
    let mid = c.match-mover_of.self in
    let end = c.match-partner_of.self in
    let partner = (change_of c.args.entry.now).partner in
    elim c.match-partner_of.branch [
      | in-Some-partner_of w ↦
          let x = w.in-Some-partner_of in
          let turn = w.turn-in-Some-partner_of in
          moved-some mid end turn.new.self partner c.partner_of.result x.g x.step c.partner_of.ensures x.is w.self-is turn.ensures.schedule turn.ensures.room
      | in_default-partner_of w ↦ moved-none mid end partner c.partner_of.result c.partner_of.ensures w.in_default-partner_of.is w.self-is
    ]

-- and what a broadcast has
third-is : (c : goal.After-start_count) → HasSignalled c.match-partner_of.self c.match-broadcast_of.self (change_of c.args.entry.now).broadcast
third-is c =
    let end = c.match-partner_of.self in
    let all = c.match-broadcast_of.self in
    let broadcast = (change_of c.args.entry.now).broadcast in
    elim c.match-broadcast_of.branch [
      | in-Some-broadcast_of w ↦
          signalled-some end all w.relock_all.new.self broadcast c.broadcast_of.result w.in-Some-broadcast_of.k c.broadcast_of.ensures w.in-Some-broadcast_of.is w.self-is
          w.relock_all.ensures.schedule w.relock_all.ensures.room
      | in_default-broadcast_of w ↦ signalled-none end all broadcast c.broadcast_of.result c.broadcast_of.ensures w.in_default-broadcast_of.is w.self-is
    ]

pub start_all-requires-clause-queued : goal.start_all-requires-clause-queued
start_all-requires-clause-queued c =
    (orderly-all_moved c.args.self.now c.match-mover_of.self c.match-partner_of.self c.match-broadcast_of.self (change_of c.args.entry.now) (first-is c) (second-is c) (third-is c)
    c.requires.orderly c.requires.served).queued

pub start_all-requires-clause-spare : goal.start_all-requires-clause-spare
start_all-requires-clause-spare c =
    let count : length (change_of c.args.entry.now).starts ≡ c.start_count.result = ap length c.starts_of.ensures ∙ sym c.start_count.ensures in
    subst (λ n. length c.match-broadcast_of.self.statuses.items + n ≤ capacity c.match-broadcast_of.self) count
    (spare-all_moved c.args.self.now c.match-mover_of.self c.match-partner_of.self c.match-broadcast_of.self (change_of c.args.entry.now) (first-is c) (second-is c) (third-is c)
    c.requires.spare)
