-- How a run ends, and where the program waits for its clock.
use Rattle.std.specs.Prelude.{ℕ, zero, ◌+◌, ◌<◌, ◌≡◌, min, [], IsSomeAnd}
use Rattle.gt_model.specs.declared.script.Script.{Script}
use Rattle.gt_model.specs.declared.entry.Entry.{Entry}
use Rattle.gt_model.specs.declared.entry.Limits.{Limits}
use Rattle.gt_model.specs.declared.entry.Outcome.{Outcome}
use Rattle.gt_model.specs.Times.{greatest_time}
use Rattle.gt_model.specs.Tables.{least}
use Rattle.gt_model.specs.declared.state.Ending.{Ending}
use Rattle.gt_rules.specs.State.{State}
use Rattle.gt_rules.specs.Counted.{counted}
use Rattle.gt_rules.specs.Legal.{May}

abbrev pub IsProgramClock : Entry → Type 0
IsProgramClock (Entry.Clock zero to) = Unit {0}
IsProgramClock _ = ⊥

-- nothing may come next but a move of the program's clock
abbrev pub IsIdle : Script → State → Type 0
IsIdle script s = (e : Entry) → May script s e → IsProgramClock e

-- an idle jump: the program's clock moves to its least counted time, and a slip more, where nothing else may come
pub record IsJump (script : Script) (s : State) (slip to : ℕ) : Type 0 where
  pub idle : IsIdle script s
  pub to_least : IsSomeAnd (least (counted script s 0)) (λ t. to ≡ min (t + slip) greatest_time)

-- the run goes on: it has not ended, and its limit is not reached
pub record IsRunning (limits : Limits) (s : State) : Type 0 where
  pub ending : s.ending ≡ Ending.Running
  pub room : s.entries < limits.entries

-- the run may have this outcome next
abbrev pub Finishes : Script → Limits → State → Outcome → Type 0
Finishes script limits s Outcome.Exit = s.ending ≡ Ending.MainEnded
Finishes script limits s Outcome.Panic = s.ending ≡ Ending.Panicked
Finishes script limits s Outcome.Limit = (s.ending ≡ Ending.Running) × (s.entries ≡ limits.entries)
Finishes script limits s Outcome.Deadlock = IsRunning limits s × IsIdle script s × (counted script s 0 ≡ [])

-- the entry is legal
abbrev pub Legal : Script → Limits → State → Entry → Type 0
Legal script limits s (Entry.Finish outcome) = Finishes script limits s outcome
Legal script limits s e = IsRunning limits s × May script s e
