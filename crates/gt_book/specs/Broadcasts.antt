-- What signalling all that wait at a Cond needs and does.
use Rattle.std.specs.Prelude.{ℕ, ◌≡◌, IsTrue, length, map}
use Rattle.gt_model.specs.declared.script.Script.{Script}
use Rattle.gt_model.specs.Script.{is_cond}
use Rattle.gt_model.specs.Good.{IsGood}
use Rattle.gt_rules.specs.State.{suspended_count}
use Rattle.gt_rules.specs.After.{signalled}
use Rattle.gt_facts.specs.Formed.{IsFormed}
use Rattle.gt_machine.specs.Machine.{state_of}
use Rattle.gt_schedule.specs.Schedule.{all_relocked}
use Rattle.gt_schedule.specs.Scheduler.{schedule_of, capacity, IsScheduler}
use Rattle.gt_book.specs.declared.run.Run.{Run}
use Rattle.gt_book.specs.View.{Fits}

-- a state and a schedule that are formed and fit
pub record AreFit (script : Script) (r : Run) : Type 0 where
  pub formed : IsFormed script (state_of r.machine)
  pub fits : Fits script (state_of r.machine) (schedule_of r.scheduler)
  pub kept : IsScheduler r.scheduler

pub record CanSignal (script : Script) (r : Run) (k : ℕ) : Type 0 where
  pub good : IsGood script
  pub cond : IsTrue (is_cond script k)
  pub fit : AreFit script r

-- all of them wait for the mutex, as many as there were, and nothing else changed
pub record Signals (script : Script) (old : Run) (k count : ℕ) (new : Run) : Type 0 where
  pub history : new.history ≡ old.history
  pub state : state_of new.machine ≡ record (state_of old.machine) { goroutines = map (signalled k) (state_of old.machine).goroutines }
  pub schedule : schedule_of new.scheduler ≡ all_relocked (schedule_of old.scheduler) k
  pub counted : count ≡ suspended_count (state_of old.machine) k
  pub none : suspended_count (state_of new.machine) k ≡ 0
  pub fit : AreFit script new
  pub many : length new.machine.goroutines.items ≡ length old.machine.goroutines.items
  pub spare : new.machine.goroutines.spare ≡ old.machine.goroutines.spare
  pub channels : new.machine.channels ≡ old.machine.channels
  pub contexts : new.machine.ctxs ≡ old.machine.ctxs
  pub waking : new.waking ≡ old.waking
  pub places : capacity new.scheduler ≡ capacity old.scheduler
