-- The outcome of a run, and the one that is due.
use Rattle.std.specs.Prelude.{◌==◌, if◌then◌else◌}
use Rattle.std.specs.declared.option.Option.{Option}
use Rattle.std.specs.declared.option.Option.TheVariants.{None, Some}
use Rattle.gt_model.specs.declared.entry.Limits.{Limits}
use Rattle.gt_model.specs.declared.entry.Outcome.{Outcome}
use Rattle.gt_model.specs.declared.state.Ending.{Ending}
use Rattle.gt_rules.specs.State.{State}

-- the outcome of the run, if it has one
abbrev pub outcome_in : Ending → Option Outcome
outcome_in (Ending.Finished outcome) = Some outcome
outcome_in _ = None

-- the outcome that a run has in a state, if one is due: main has ended, a goroutine has panicked, or the limit is reached
abbrev pub due_outcome : Limits → State → Option Outcome
due_outcome limits s = elim s.ending [
  | Ending.MainEnded ↦ Some Outcome.Exit
  | Ending.Panicked ↦ Some Outcome.Panic
  | Ending.Running ↦ if s.entries == limits.entries then Some Outcome.Limit else None
  | Ending.Finished outcome ↦ None
]
