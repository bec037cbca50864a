-- A run of a script on one worker.
use Rattle.std.specs.Prelude.{ℕ, ◌+◌, ◌-◌, ◌*◌, ◌<◌, ◌≡◌, ◌≢◌, ◌⊎◌, length, IsSome}
use Rattle.std.specs.declared.option.Option.{Option}
use Rattle.std.specs.declared.option.Option.TheVariants.{None, Some}
use Rattle.gt_model.specs.declared.script.Script.{Script}
use Rattle.gt_model.specs.declared.entry.Limits.{Limits}
use Rattle.gt_rules.specs.After.{first_state}
use Rattle.gt_rules.specs.History.{AllJump}
use Rattle.gt_schedule.specs.declared.status.RunStatus.{RunStatus}
use Rattle.gt_schedule.specs.Schedule.{status_of, queued_count, most_goroutines}
use Rattle.gt_book.specs.View.{BookView, outcome_of}

-- the program's clock moved by idle jumps alone so far
abbrev pub Jumps : BookView → Type 0
Jumps b = AllJump b.script 0 (first_state b.script) b.history

-- no goroutine is in a worker's hand
abbrev pub HandsFree : BookView → Type 0
HandsFree b = (g : ℕ) → status_of b.schedule g ≢ Some RunStatus.InHand

-- a goroutine is in hand, and no other is
pub record IsAlone (b : BookView) (g : ℕ) : Type 0 where
  pub in_hand : status_of b.schedule g ≡ Some RunStatus.InHand
  pub alone : (h : ℕ) → status_of b.schedule h ≡ Some RunStatus.InHand → h ≡ g

-- the run goes on in a book of the same script: entries were made, or the goroutines to be taken are as many as before
pub record Passes (old new : BookView) : Type 0 where
  pub script : new.script ≡ old.script
  pub limits : new.limits ≡ old.limits
  pub jumps : Jumps old → Jumps new
  pub hands : outcome_of new ≡ None → HandsFree new
  pub goes : (length old.history < length new.history) ⊎ ((new.history ≡ old.history) × (queued_count new.schedule ≡ queued_count old.schedule))

-- the same of one call of g, which may be in hand still
pub record Goes (g : ℕ) (old new : BookView) : Type 0 where
  pub script : new.script ≡ old.script
  pub limits : new.limits ≡ old.limits
  pub jumps : Jumps old → Jumps new
  pub hands : (h : ℕ) → status_of new.schedule h ≡ Some RunStatus.InHand → h ≡ g
  pub goes : (length old.history < length new.history)
      ⊎ ((new.history ≡ old.history) × (queued_count new.schedule ≡ queued_count old.schedule) × (status_of new.schedule g ≢ Some RunStatus.InHand))

-- the same with an entry more at least
pub record Moves (old new : BookView) : Type 0 where
  pub passes : Passes old new
  pub longer : length old.history < length new.history

-- the same of some calls of g so far
pub record GoesOn (g : ℕ) (old new : BookView) : Type 0 where
  pub script : new.script ≡ old.script
  pub limits : new.limits ≡ old.limits
  pub jumps : Jumps old → Jumps new
  pub hands : (h : ℕ) → status_of new.schedule h ≡ Some RunStatus.InHand → h ≡ g
  pub goes : (length old.history < length new.history)
      ⊎ ((new.history ≡ old.history) × (queued_count new.schedule ≡ queued_count old.schedule))

-- whether a goroutine is in hand, as a number
abbrev pub hand : Option RunStatus → ℕ
hand (Some RunStatus.InHand) = 1
hand _ = 0

-- how much is left of a goroutine's turn
abbrev pub turn_left : ℕ → BookView → ℕ
turn_left g b = (b.limits.entries + 1 - length b.history) * 2 + hand (status_of b.schedule g)

-- a turn keeps the run
pub record Turns (old new : BookView) : Type 0 where
  pub script : new.script ≡ old.script
  pub limits : new.limits ≡ old.limits
  pub jumps : Jumps old → Jumps new
  pub hands : outcome_of new ≡ None → HandsFree new

-- a run of the script so far
pub record IsUnderWay (script : Script) (limits : Limits) (b : BookView) : Type 0 where
  pub of_script : b.script ≡ script
  pub within : b.limits ≡ limits
  pub jumps : Jumps b
  pub hands : outcome_of b ≡ None → HandsFree b

-- how much is left of a run
abbrev pub run_left : BookView → ℕ
run_left b = (b.limits.entries + 1 - length b.history) * (most_goroutines b.script b.limits + 2) + queued_count b.schedule

-- a complete run of the script within the limits
pub record IsComplete (script : Script) (limits : Limits) (b : BookView) : Type 0 where
  pub of_script : b.script ≡ script
  pub within : b.limits ≡ limits
  pub jumps : Jumps b
  pub over : IsSome (outcome_of b)
