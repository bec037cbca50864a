-- What is needed where nobody runs, and what is left.
use Rattle.std.specs.Prelude.{ℕ, ◌≡◌, ◌≤◌, false, length, slice_get}
use Rattle.std.specs.declared.option.Option.TheVariants.{None, Some}
use Rattle.gt_rules.specs.State.{clock}
use Rattle.gt_rec.specs.Rec.{Rec}
use Rattle.gt_lazy.specs.Slots.{StandsAt}
use Rattle.gt_lazy.specs.Running.{is_stale}
use Rattle.gt_schedule.specs.declared.status.RunStatus.{RunStatus}
use Rattle.gt_schedule.specs.Schedule.{Schedule, status_of}
use Rattle.gt_book.specs.Least.{NobodyRuns}
use Rattle.gt_book.specs.View.{BookView, IsLawful, outcome_of, with_schedule}
use Rattle.gt_runner.specs.declared.runner.Runner.{Runner}
use Rattle.gt_runner.specs.Run.{Moves}
use Rattle.gt_runner.specs.Settled.{is_over}
use Rattle.gt_runner.specs.Served.{IsWatched, IsServed, IsServedBut}

-- a goroutine was taken, and may be counted still where it waited
pub record IsTaken (x : Runner) (g : ℕ) : Type 0 where
  pub but : IsServedBut x g
  pub marks_many : length x.book.schedule.marks ≡ length x.book.schedule.statuses
  pub in_hand : status_of x.book.schedule g ≡ Some RunStatus.InHand

-- the marks alone may have changed
pub record ButMarks (b b' : BookView) : Type 0 where
  pub schedule : Schedule
  pub is : b' ≡ with_schedule b schedule
  pub statuses : schedule.statuses ≡ b.schedule.statuses
  pub run_queue : schedule.run_queue ≡ b.schedule.run_queue

-- a run in which nobody runs
pub record IsIdleRun (x : Runner) : Type 0 where
  pub served : IsServed x
  pub lawful : IsLawful x.book
  pub running : outcome_of x.book ≡ None
  pub nobody : NobodyRuns x.book
  pub marks_many : length x.book.schedule.marks ≡ length x.book.schedule.statuses

-- the record of a number stands at the head, is fit, and its time has come
pub record IsDueHead (x : Runner) (id : ℕ) : Type 0 where
  pub rec : Rec
  pub there : slice_get x.records.items id ≡ Some rec
  pub id_is : rec.id ≡ id
  pub watched : IsWatched x.book x.heap x.noted rec
  pub stands : StandsAt x.heap 0 rec
  pub fresh : is_stale rec ≡ false
  pub going : is_over x.book rec ≡ false
  pub come : rec.key ≤ clock x.book.state 0

-- an entry more at least, and the run is served as before where it goes on
pub record Passing (x x' : Runner) : Type 0 where
  pub moves : Moves x.book x'.book
  pub served : outcome_of x'.book ≡ None → IsServed x'
