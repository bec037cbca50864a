-- Histories.
use Rattle.std.specs.Prelude.{ℕ, zero, ◌≡◌, List, [], ◌∷◌}
use Rattle.gt_model.specs.declared.script.Script.{Script}
use Rattle.gt_model.specs.declared.entry.Entry.{Entry}
use Rattle.gt_model.specs.declared.entry.Limits.{Limits}
use Rattle.gt_model.specs.declared.entry.Outcome.{Outcome}
use Rattle.gt_model.specs.declared.state.Ending.{Ending}
use Rattle.gt_rules.specs.State.{State}
use Rattle.gt_rules.specs.After.{after, first_state}
use Rattle.gt_rules.specs.Finish.{Legal, IsJump}

-- the state after these entries
abbrev pub state_after : Script → State → List Entry → State
state_after script s [] = s
state_after script s (e ∷ h) = state_after script (after script s e) h

-- each entry is legal in the state after those before it
abbrev pub AllLegal : Script → Limits → State → List Entry → Type 0
AllLegal script limits s [] = Unit {0}
AllLegal script limits s (e ∷ h) = Legal script limits s e × AllLegal script limits (after script s e) h

-- a complete history, with its outcome
pub record History (script : Script) (limits : Limits) (h : List Entry) (outcome : Outcome) : Type 0 where
  pub legal : AllLegal script limits (first_state script) h
  pub over : (state_after script (first_state script) h).ending ≡ Ending.Finished outcome

-- each move of the program's clock is an idle jump with this slip
abbrev pub ClockJumps : Script → ℕ → State → Entry → Type 0
ClockJumps script slip s (Entry.Clock zero to) = IsJump script s slip to
ClockJumps script slip s _ = Unit {0}

abbrev pub AllJump : Script → ℕ → State → List Entry → Type 0
AllJump script slip s [] = Unit {0}
AllJump script slip s (e ∷ h) = ClockJumps script slip s e × AllJump script slip (after script s e) h
