-- How a run ends, where, and where its clock jumps: told by its entries and its script alone.
use Rattle.std.specs.Prelude.{ℕ, zero, suc, ◌+◌, ◌≡◌, ◌<◌, min, IsSomeAnd, List}
use Rattle.std.specs.declared.option.Option.{Option}
use Rattle.std.specs.declared.option.Option.TheVariants.{None, Some}
use Rattle.gt_model.specs.declared.script.Script.{Script}
use Rattle.gt_model.specs.declared.entry.Entry.{Entry}
use Rattle.gt_model.specs.declared.entry.Limits.{Limits}
use Rattle.gt_model.specs.declared.entry.Outcome.{Outcome}
use Rattle.gt_model.specs.declared.state.Ending.{Ending}
use Rattle.gt_model.specs.Tables.{least}
use Rattle.gt_model.specs.Times.{greatest_time}
use Rattle.gt_rules.specs.Change.{change_of}
use Rattle.gt_laws.specs.Told.{ending_told, entries_told}
use Rattle.gt_laws.specs.GoesOn.{counted_told, IsStillTold, IsStuckTold}

-- the run has not ended, and its limit is not reached
abbrev pub IsOn : Limits → List Entry → Type 0
IsOn limits front = (ending_told front ≡ Ending.Running) × (entries_told front < limits.entries)

-- each outcome for its cause: an exit after the end of main's function, a panic after a misuse, the limit at the limit, and a deadlock where
-- nothing can go on
abbrev pub FinishesRightly : Script → Limits → List Entry → Outcome → Type 0
FinishesRightly script limits front Outcome.Exit = ending_told front ≡ Ending.MainEnded
FinishesRightly script limits front Outcome.Panic = ending_told front ≡ Ending.Panicked
FinishesRightly script limits front Outcome.Limit = (ending_told front ≡ Ending.Running) × (entries_told front ≡ limits.entries)
FinishesRightly script limits front Outcome.Deadlock = IsOn limits front × IsStuckTold script front

-- what is asked of an entry that says so of the run's end: no entry sets a run going again
abbrev pub SaysRightly : Script → Limits → List Entry → Option Ending → Type 0
SaysRightly script limits front None = IsOn limits front
SaysRightly script limits front (Some Ending.Running) = ⊥
SaysRightly script limits front (Some Ending.MainEnded) = IsOn limits front
SaysRightly script limits front (Some Ending.Panicked) = IsOn limits front
SaysRightly script limits front (Some (Ending.Finished outcome)) = FinishesRightly script limits front outcome

-- a finish has its cause, and all other entries come before
abbrev pub EndsRightly : Script → Limits → List Entry → Entry → Type 0
EndsRightly script limits front e = SaysRightly script limits front (change_of e).ending

-- where nothing can go on, the run ends with a deadlock
abbrev pub EndsWhereStuck : Script → Limits → List Entry → Entry → Type 0
EndsWhereStuck script limits front e = IsOn limits front → IsStuckTold script front → e ≡ Entry.Finish Outcome.Deadlock

-- the move of a clock of this world: that of the program's is an idle jump. The program stands still, and its clock moves to the least counted time,
-- and a slip more
abbrev pub MovesIdly : Script → ℕ → List Entry → ℕ → ℕ → Type 0
MovesIdly script slip front zero to =
    IsStillTold script front × IsSomeAnd (least (counted_told script 0 front)) (λ time. to ≡ min (time + slip) greatest_time)
MovesIdly script slip front (suc world) to = Unit {0}

-- each move of the program's clock is an idle jump
abbrev pub JumpsToLeast : Script → ℕ → List Entry → Entry → Type 0
JumpsToLeast script slip front e = elim (change_of e).clock [ None ↦ Unit {0} | Some x ↦ MovesIdly script slip front x.0 x.1 ]
