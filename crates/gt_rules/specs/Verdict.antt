-- What a list of entries is judged to be.
use Rattle.std.specs.Prelude.{ℕ, ◌+◌, ◌==◌, Bool, true, false, not, IsTrue, MatchBool, List, [], ◌∷◌}
use Rattle.gt_model.specs.declared.script.Script.{Script}
use Rattle.gt_model.specs.declared.entry.Entry.{Entry}
use Rattle.gt_model.specs.declared.entry.Limits.{Limits}
use Rattle.gt_model.specs.declared.entry.Verdict.{Verdict}
use Rattle.gt_model.specs.declared.state.Ending.{Ending}
use Rattle.gt_rules.specs.State.{State}
use Rattle.gt_rules.specs.After.{after, first_state}
use Rattle.gt_rules.specs.Finish.{Legal}

abbrev pub is_over : State → Bool
is_over s = elim s.ending [ Ending.Finished outcome ↦ true | _ ↦ false ]

-- what the entries are, from a state on, the first of which has the number n
abbrev pub Judged : Script → Limits → State → ℕ → List Entry → Verdict → Type 0
Judged script limits s n [] Verdict.Legal = IsTrue (is_over s)
Judged script limits s n [] Verdict.Unfinished = IsTrue (not (is_over s))
Judged script limits s n [] (Verdict.Illegal entry) = ⊥
Judged script limits s n (e ∷ h) (Verdict.Illegal entry) =
    MatchBool (entry == n) (¬ Legal script limits s e) (Legal script limits s e × Judged script limits (after script s e) (n + 1) h (Verdict.Illegal entry))
Judged script limits s n (e ∷ h) verdict = Legal script limits s e × Judged script limits (after script s e) (n + 1) h verdict

-- the verdict on a list of entries
abbrev pub IsVerdict : Script → Limits → List Entry → Verdict → Type 0
IsVerdict script limits h verdict = Judged script limits (first_state script) 1 h verdict
