-- The schedule that a scheduler's fields mean, what its calls need, and what it keeps.
use Rattle.std.specs.Prelude.{ℕ, ◌+◌, ◌-◌, ◌^◌, ◌<◌, ◌≤◌, ◌≡◌, IsSome, true, length, take, drop}
use Rattle.gt_model.specs.declared.entry.Entry.{Entry}
use Rattle.gt_model.specs.declared.script.CaseKind.{CaseKind}
use Rattle.gt_rules.specs.Change.{change_of}
use Rattle.gt_queue.specs.Contents.{waiting_in}
use Rattle.gt_select.specs.Waiting.{ticket_of}
use Rattle.gt_schedule.specs.declared.scheduler.Scheduler.{Scheduler}
use Rattle.gt_schedule.specs.Schedule.{Schedule, status_of, is_parked, in_hand, Served, HasListsIn, RunsQueued, AreParked}

-- the lists of the first declared names have those that are parked at a receive from each, and the others behind them those at a send to it
abbrev pub schedule_of : Scheduler → Schedule
schedule_of m = record {
  statuses = m.statuses.items;
  run_queue = waiting_in m.run_queue.queues 0;
  receivers = take m.declared m.waiters.lists;
  senders = drop m.declared m.waiters.lists;
  parks = m.parks;
  marks = m.marks.items;
  mutexes = m.mutexes.items;
}

-- the list of those that are parked at an operation, where so many names are declared
abbrev pub list_of : ℕ → CaseKind → ℕ
list_of declared (CaseKind.Recv o) = o
list_of declared (CaseKind.Send c v) = declared + c

-- how many goroutines a scheduler has room for in all
abbrev pub capacity : Scheduler → ℕ
capacity m = length m.statuses.items + m.statuses.spare

-- who has a ticket is parked
abbrev pub HoldParked : Scheduler → Type 0
HoldParked m = (g : ℕ) → IsSome (ticket_of m.waiters g) → is_parked (status_of (schedule_of m) g) ≡ true

-- what a scheduler keeps: it counts those in hand, and has a member of the run queue for each goroutine by its number, and room for its ticket
pub record IsScheduler (m : Scheduler) : Type 0 where
  pub running : m.running ≡ in_hand (schedule_of m)
  pub members : m.run_queue.members ≡ capacity m + 1
  pub queues : length m.run_queue.queues ≡ 1
  pub goroutines : m.waiters.goroutines ≡ capacity m
  pub lists : length m.waiters.lists ≡ m.declared + m.declared
  pub few : capacity m + length m.waiters.lists < 2 ^ 32 - 2
  pub parks : m.parks ≤ 2 ^ 64 - 1
  -- a goroutine has a ticket only while it is parked: so it can have the next one when it is parked again
  pub tickets : HoldParked m
  -- each goroutine has its place among the marks, and there is room for those to come
  pub marks : length m.marks.items ≡ length m.statuses.items
  pub mark_room : length m.marks.items + m.marks.spare ≡ capacity m

-- the run queue has those that are queued, and who waits at an operation is parked
pub record IsOrderly (m : Schedule) : Type 0 where
  pub queued : RunsQueued m
  pub receivers : AreParked m m.receivers
  pub senders : AreParked m m.senders

-- an entry can be made: its goroutine is where it has to be, the lists that it changes are there, and there is room for the goroutines that it starts
pub record CanApply (m : Scheduler) (e : Entry) : Type 0 where
  pub kept : IsScheduler m
  pub orderly : IsOrderly (schedule_of m)
  pub served : Served (schedule_of m) e
  pub lists : HasListsIn (schedule_of m) (change_of e)
  pub spare : length m.statuses.items + length (change_of e).starts ≤ capacity m
