-- A book of a complete run has a complete history, which can be printed.
use Rattle.std.proofs.Common.{◌≡◌, Some, sym, ap, subst, ◌∙◌}
use Rattle.gt_model.specs.declared.script.Script.{Script}
use Rattle.gt_model.specs.declared.entry.Limits.{Limits}
use Rattle.gt_model.specs.declared.entry.Outcome.{Outcome}
use Rattle.gt_model.specs.declared.state.Ending.{Ending}
use Rattle.gt_model.specs.Good.{IsGood}
use Rattle.gt_rules.specs.State.{State}
use Rattle.gt_rules.specs.After.{first_state}
use Rattle.gt_rules.specs.History.{History, AllLegal, AllJump, state_after}
use Rattle.gt_model.specs.Named.{AllNamed}
use Rattle.gt_facts.proofs.Formed.{formed-first}
use Rattle.gt_facts.proofs.Named.{AllNamed-legal}
use Rattle.gt_laws.proofs.Laws.{each-in_order, each-in_time, each-fresh, each-passes_on, each-chooses_rightly, each-alone, each-adds_up, each-signalled, each-keeps, each-hooks}
use Rattle.gt_laws.proofs.FirstCauses.{each-stays, one-cause}
use Rattle.gt_laws.proofs.Made.{each-uses_rightly}
use Rattle.gt_laws.proofs.Jumps.{each-jumps}
use Rattle.gt_laws.proofs.Turns.{each-in_turn}
use Rattle.gt_laws.proofs.Ends.{each-ends, each-ends_where_stuck}
use Rattle.gt_book.specs.View.{BookView, IsLawful, outcome_of}
use Rattle.gt_machine.specs.Outcomes.{outcome_in}
use Rattle.gt_top.specs.Answer.{IsRun}
use Rattle.gt_runner.specs.Run.{IsComplete}

ending-of : (e : Ending) (outcome : Outcome) → outcome_in e ≡ Some outcome → e ≡ Ending.Finished outcome
ending-of (Ending.Finished o) outcome e = cc
ending-of Ending.Running outcome e = cc
ending-of Ending.MainEnded outcome e = cc
ending-of Ending.Panicked outcome e = cc

pub complete-IsRun : (script : Script) (limits : Limits) (b : BookView) (outcome : Outcome)
    → IsComplete script limits b → IsLawful b → outcome_of b ≡ Some outcome → IsRun script limits b.history outcome
complete-IsRun script limits b outcome run lawful is =
    let legal : AllLegal script limits (first_state script) b.history = rw (sym run.of_script, sym run.within) lawful.legal in
    let jumps : AllJump script 0 (first_state script) b.history = rw (sym run.of_script) run.jumps in
    let reached : state_after script (first_state script) b.history ≡ b.state = rw (sym run.of_script) lawful.reached in
    let good : IsGood script = subst IsGood run.of_script lawful.good in
    let complete : History script limits b.history outcome =
    record { legal = legal; over = ap (λ (s : State). s.ending) reached ∙ ending-of b.state.ending outcome is } in
    record {
      complete = complete;
      jumps = jumps;
      in_order = each-in_order script limits b.history outcome good complete;
      in_turn = each-in_turn script limits b.history outcome good complete;
      in_time = each-in_time script limits b.history outcome good complete;
      fresh = each-fresh script limits b.history outcome good complete;
      uses = each-uses_rightly script limits b.history outcome good complete;
      passes = each-passes_on script limits b.history outcome good complete;
      chooses = each-chooses_rightly script limits b.history outcome good complete;
      alone = each-alone script limits b.history outcome good complete;
      adds_up = each-adds_up script limits b.history outcome good complete;
      signals = each-signalled script limits b.history outcome good complete;
      keeps = each-keeps script limits b.history outcome good complete;
      one_cause = one-cause script limits b.history outcome good complete;
      hooks = each-hooks script limits b.history outcome good complete;
      hooks_stay = each-stays script limits b.history outcome good complete;
      ends = each-ends script limits b.history outcome good complete;
      ends_where_stuck = each-ends_where_stuck script limits 0 b.history outcome good complete jumps;
      jumps_to_least = each-jumps script limits 0 b.history outcome good complete jumps;
    }

pub complete-AllNamed : (script : Script) (limits : Limits) (b : BookView) → IsComplete script limits b → IsLawful b → AllNamed script b.history
complete-AllNamed script limits b run lawful =
    rw (sym run.of_script) (AllNamed-legal b.script b.limits (first_state b.script) b.history lawful.good (formed-first b.script lawful.good) lawful.legal)
