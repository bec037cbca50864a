-- An entry of a complete history, in the state in which it comes.
use Rattle.std.proofs.Common.{◌≡◌, List, [], ◌∷◌, ◌++◌, subst}
use Rattle.gt_model.specs.declared.script.Script.{Script}
use Rattle.gt_model.specs.declared.entry.Entry.{Entry}
use Rattle.gt_model.specs.declared.entry.Limits.{Limits}
use Rattle.gt_model.specs.declared.entry.Outcome.{Outcome}
use Rattle.gt_model.specs.Good.{IsGood}
use Rattle.gt_rules.specs.State.{State}
use Rattle.gt_rules.specs.After.{after, first_state}
use Rattle.gt_rules.specs.Finish.{Legal}
use Rattle.gt_rules.specs.History.{History, AllLegal, state_after}
use Rattle.gt_laws.specs.Laws.{AtEach}
use Rattle.gt_laws.proofs.GoesOn.{reached}

pub record Comes (script : Script) (limits : Limits) (front : List Entry) (e : Entry) : Type 0 where
  pub good : IsGood script
  pub before : AllLegal script limits (first_state script) front
  pub legal : Legal script limits (reached script front) e

parts : (script : Script) (limits : Limits) (s : State) (front : List Entry) (e : Entry) (rest : List Entry) → AllLegal script limits s (front ++ e ∷ rest)
    → AllLegal script limits s front × Legal script limits (state_after script s front) e
parts script limits s [] e rest all = (tt, all.0)
parts script limits s (x ∷ front) e rest all = let later = parts script limits (after script s x) front e rest all.1 in ((all.0, later.0), later.1)

pub comes : (script : Script) (limits : Limits) (h : List Entry) (outcome : Outcome) (front : List Entry) (e : Entry) (rest : List Entry)
    → IsGood script → History script limits h outcome → h ≡ front ++ e ∷ rest → Comes script limits front e
comes script limits h outcome front e rest good history is =
    let both = parts script limits (first_state script) front e rest (subst (AllLegal script limits (first_state script)) is history.legal) in
    record { good = good; before = both.0; legal = both.1 }

-- a law of each entry that comes is one of each entry of a history
pub each : (P : Script → Limits → List Entry → Entry → Type 0) → ((script : Script) (limits : Limits) (front : List Entry) (e : Entry) → Comes script limits front e → P script limits front e)
    → (script : Script) (limits : Limits) (h : List Entry) (outcome : Outcome) → IsGood script → History script limits h outcome → AtEach (P script limits) h
each P one script limits h outcome good history front e rest is = one script limits front e (comes script limits h outcome front e rest good history is)
