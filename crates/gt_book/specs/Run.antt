-- What is seen of a run, what it keeps while it goes on, and what its steps need and do.
use Rattle.std.specs.Prelude.{ℕ, ◌+◌, ◌≤◌, ◌≡◌, ◌==◌, is_some, List, [], ◌∷◌, length}
use Rattle.std.specs.declared.option.Option.TheVariants.{None}
use Rattle.std.specs.BinaryHeap.{heap_capacity}
use Rattle.gt_model.specs.declared.script.Script.{Script}
use Rattle.gt_model.specs.declared.entry.Entry.{Entry}
use Rattle.gt_model.specs.declared.entry.Limits.{Limits}
use Rattle.gt_model.specs.Good.{IsGood, AreLimits}
use Rattle.gt_rules.specs.After.{after, first_state}
use Rattle.gt_rules.specs.Legal.{May}
use Rattle.gt_rules.specs.Finish.{IsRunning}
use Rattle.gt_rules.specs.History.{AllLegal, state_after}
use Rattle.gt_facts.specs.Formed.{IsFormed}
use Rattle.gt_machine.specs.Machine.{state_of, HasChannels, HasContexts}
use Rattle.gt_machine.specs.Outcomes.{due_outcome, outcome_in}
use Rattle.gt_schedule.specs.Counts.{as_number}
use Rattle.gt_schedule.specs.Schedule.{most_goroutines, scheduled, Served}
use Rattle.gt_schedule.specs.Scheduler.{schedule_of, capacity, IsScheduler}
use Rattle.gt_book.specs.declared.run.Run.{Run}
use Rattle.gt_book.specs.View.{BookView, IsLawful, Fits, NoneFirm, AreWoken, with_entries, outcome_of, finish_due}
use Rattle.gt_book.specs.Calm.{IsCalmBut}

abbrev pub seen_of : Script → Limits → Run → BookView
seen_of script limits r = record {
  script = script;
  limits = limits;
  history = r.history.items;
  state = state_of r.machine;
  schedule = schedule_of r.scheduler;
}

-- each declared context can be noted
pub record HasWakingRoom (script : Script) (r : Run) : Type 0 where
  pub room : length script.decls ≤ heap_capacity r.waking

-- the rooms of a run were taken when it began: for every entry and the finish, for all goroutines and for the values of channels
pub record HasRooms (script : Script) (limits : Limits) (r : Run) : Type 0 where
  pub history : length r.history.items + r.history.spare ≡ limits.entries + 1
  pub goroutines : length r.machine.goroutines.items + r.machine.goroutines.spare ≡ most_goroutines script limits
  pub channels : HasChannels script r.machine
  pub contexts : HasContexts script r.machine
  pub waking : HasWakingRoom script r  -- for each context that an end reaches
  pub entries : length r.history.items ≡ r.machine.entries + as_number (is_some (outcome_in r.machine.ending))  -- the finish is not counted
  pub schedule : capacity r.scheduler ≡ most_goroutines script limits
  pub scheduler : IsScheduler r.scheduler

-- all that a lawful book keeps, but that the run goes on or has its outcome, and that nobody parked is firmly ready while it goes on
pub record IsSound (b : BookView) : Type 0 where
  pub good : IsGood b.script
  pub limits : AreLimits b.limits
  pub legal : AllLegal b.script b.limits (first_state b.script) b.history
  pub reached : state_after b.script (first_state b.script) b.history ≡ b.state
  pub formed : IsFormed b.script b.state
  pub fits : Fits b.script b.state b.schedule

-- a run that has no outcome yet; one may be due
pub record IsUnderWay (b : BookView) : Type 0 where
  pub sound : IsSound b
  pub few : b.state.entries ≤ b.limits.entries
  pub unfinished : outcome_of b ≡ None

-- it keeps that, and has its rooms
pub record IsKeptRun (script : Script) (limits : Limits) (r : Run) : Type 0 where
  pub way : IsUnderWay (seen_of script limits r)
  pub rooms : HasRooms script limits r

-- a run that may make an entry
pub record CanMake (script : Script) (limits : Limits) (r : Run) (e : Entry) : Type 0 where
  pub kept : IsKeptRun script limits r
  pub running : IsRunning limits (state_of r.machine)
  pub may : May script (state_of r.machine) e
  pub served : Served (schedule_of r.scheduler) e

-- it has made an entry
pub record Makes (script : Script) (limits : Limits) (old : Run) (e : Entry) (new : Run) : Type 0 where
  pub is : seen_of script limits new ≡ with_entries (seen_of script limits old) (e ∷ [])
  pub kept : IsKeptRun script limits new

-- where a run may let those go on that wait at an object: nobody else could
pub record CanWake (script : Script) (limits : Limits) (r : Run) (c : ℕ) : Type 0 where
  pub kept : IsKeptRun script limits r
  pub but : IsCalmBut script (state_of r.machine) (schedule_of r.scheduler) (λ o. o == c)

-- they went on, until none could or the run is to end
pub record Wakes (script : Script) (limits : Limits) (old new : Run) : Type 0 where
  pub woken : List Entry
  pub legal : AllLegal script limits (state_of old.machine) woken
  pub each_woken : AreWoken script (state_of old.machine) (schedule_of old.scheduler) woken
  pub is : seen_of script limits new ≡ with_entries (seen_of script limits old) woken
  pub kept : IsKeptRun script limits new
  pub calm : due_outcome limits (state_of new.machine) ≡ None → NoneFirm (seen_of script limits new)

-- a run in which an entry may come: nobody who is parked could go on
pub record CanEnter (script : Script) (limits : Limits) (r : Run) (e : Entry) : Type 0 where
  pub can : CanMake script limits r e
  pub calm : NoneFirm (seen_of script limits r)

-- the entry was made, and those of whom it woke
pub record Entered (script : Script) (limits : Limits) (old : Run) (e : Entry) (new : Run) : Type 0 where
  pub woken : List Entry
  pub legal : AllLegal script limits (state_of old.machine) (e ∷ woken)
  pub each_woken : AreWoken script (after script (state_of old.machine) e) (scheduled (schedule_of old.scheduler) e) woken
  pub is : seen_of script limits new ≡ with_entries (seen_of script limits old) (e ∷ woken)
  pub kept : IsKeptRun script limits new
  pub calm : due_outcome limits (state_of new.machine) ≡ None → NoneFirm (seen_of script limits new)

-- a run that may end, where an outcome is due
pub record CanEnd (script : Script) (limits : Limits) (r : Run) : Type 0 where
  pub kept : IsKeptRun script limits r
  pub calm : due_outcome limits (state_of r.machine) ≡ None → NoneFirm (seen_of script limits r)

-- it did
pub record Ends (script : Script) (limits : Limits) (old new : Run) : Type 0 where
  pub is : seen_of script limits new ≡ with_entries (seen_of script limits old) (finish_due limits (state_of old.machine))
  pub lawful : IsLawful (seen_of script limits new)
  pub rooms : HasRooms script limits new
