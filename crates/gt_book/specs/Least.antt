-- The times that count, by the number of the record that shows each.
use Rattle.std.specs.Prelude.{ℕ, ◌-◌, ◌≡◌, ◌≢◌, ◌⊎◌, nat_lt, Bool, true, false, [], length}
use Rattle.std.specs.declared.option.Option.{Option}
use Rattle.std.specs.declared.option.Option.TheVariants.{None, Some}
use Rattle.gt_model.specs.declared.script.Script.{Script}
use Rattle.gt_model.specs.declared.state.Goroutine.{Goroutine}
use Rattle.gt_rules.specs.State.{State, goroutine_at, timer_at, context_at}
use Rattle.gt_rules.specs.Counted.{sleep_of, counted_timer, deadline_in}
use Rattle.gt_schedule.specs.declared.status.RunStatus.{RunStatus}
use Rattle.gt_schedule.specs.Schedule.{status_of}
use Rattle.gt_book.specs.View.{BookView}

-- nobody is to be taken, and nobody is in a worker's hand
pub record NobodyRuns (b : BookView) : Type 0 where
  pub queue : b.schedule.run_queue ≡ []
  pub hands : (g : ℕ) → status_of b.schedule g ≢ Some RunStatus.InHand

-- the end of a goroutine's sleep
abbrev pub sleep_in : Option Goroutine → Option ℕ
sleep_in None = None
sleep_in (Some r) = sleep_of 0 r

-- by whether a number is that of a declaration
abbrev pub CountsBy : Script → State → ℕ → ℕ → Bool → Type 0
CountsBy script s id at true = (counted_timer script s 0 (id, timer_at s id) ≡ Some at) ⊎ (deadline_in 0 (context_at s id) ≡ Some at)
CountsBy script s id at false = sleep_in (goroutine_at s (id - length script.decls)) ≡ Some at

-- A time of the program counts, and the record of this number shows it: it is the due time of a timer that counts, the own deadline of a context that has not ended, or
-- the end of a goroutine's sleep. The records of the declarations have the first numbers, and those of sleeps the numbers behind them.
abbrev pub IsCountedBy : Script → State → ℕ → ℕ → Type 0
IsCountedBy script s id at = CountsBy script s id at (nat_lt id (length script.decls))
