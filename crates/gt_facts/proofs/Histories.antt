-- A history with one more entry.
use Rattle.std.proofs.Common.{◌≡◌, List, [], ◌∷◌, ◌++◌, refl}
use Rattle.gt_model.specs.declared.script.Script.{Script}
use Rattle.gt_model.specs.declared.entry.Entry.{Entry}
use Rattle.gt_model.specs.declared.entry.Limits.{Limits}
use Rattle.gt_rules.specs.State.{State}
use Rattle.gt_rules.specs.After.{after}
use Rattle.gt_rules.specs.Finish.{Legal}
use Rattle.gt_rules.specs.History.{AllLegal, state_after}

pub state_after-append : (script : Script) (s : State) (h : List Entry) (e : Entry) → state_after script s (h ++ e ∷ []) ≡ after script (state_after script s h) e
state_after-append script s [] e = refl
state_after-append script s (x ∷ h) e = state_after-append script (after script s x) h e

pub AllLegal-append : (script : Script) (limits : Limits) (s : State) (h : List Entry) (e : Entry)
    → AllLegal script limits s h → Legal script limits (state_after script s h) e → AllLegal script limits s (h ++ e ∷ [])
AllLegal-append script limits s [] e all next = (next, tt)
AllLegal-append script limits s (x ∷ h) e all next = (all.0, AllLegal-append script limits (after script s x) h e all.1 next)
