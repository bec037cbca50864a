-- What a step of a goroutine in hand has met that waits at a channel, a mutex or a WaitGroup, or at a choice: nobody lets it go on, and its object is ready by no other cause.
use Rattle.std.proofs.Common.{◌≡◌, ℕ, ◌+◌, ◌<◌, cond, List, [], ◌∷◌, refl, ap, subst, ◌∙◌, Option, None, Some, length, is_some, Bool, true, false, IsTrue, zero, suc, ◌||◌}
use Rattle.std.specs.List.{AllByRecursion, list_any}
use Rattle.std.proofs.lemmas.List.Elements.{recursion_from_All}
use Rattle.gt_model.specs.declared.script.Script.{Script}
use Rattle.gt_model.specs.declared.script.Instr.{Instr}
use Rattle.gt_model.specs.declared.script.CaseKind.{CaseKind}
use Rattle.gt_model.specs.declared.script.Case.{Case}
use Rattle.gt_model.specs.declared.entry.Entry.{Entry}
use Rattle.gt_rules.specs.State.{State, stands, stands_at, clock_of}
use Rattle.gt_model.specs.Script.{is_chan, is_ctx}
use Rattle.gt_model.proofs.Declared.{chan_declared, mutex_declared, wg_declared}
use Rattle.gt_rules.specs.Panics.{fault}
use Rattle.gt_model.specs.Good.{IsGood, IsGoodChoice, NamesRightly, OperatesRightly}
use Rattle.gt_facts.proofs.Lookups.{names-Does}
use Rattle.gt_schedule.specs.declared.status.RunStatus.{RunStatus}
use Rattle.gt_book.specs.declared.step.Step.{Step}
use Rattle.gt_schedule.specs.Schedule.{Schedule, plainly, at_case, object_of, status_of}
use Rattle.gt_book.specs.Steps.{chooses, case_step, come_timer, step_of, step_or_panic, step_of_instr, plain_step, goes_by, goes_alone, meets}
use Rattle.gt_book.specs.View.{Fits, is_waiting}
use Rattle.gt_book.proofs.Calm.{CanPark, CanWait}
use Rattle.gt_book.proofs.Firm.{both-false, calm-standing}
use Rattle.gt_book.proofs.Options.{ChoiceIs, NoneGoes, case_goes, case_polls, all_rest, all_wait, choice-so, or-none, unready-alone, never-come, meets-nobody}
use Rattle.gt_rules.specs.Operations.{operation}
use Rattle.gt_rules.specs.Ready.{no_timer, is_ready_alone, is_ready_case}
use Rattle.gt_book.proofs.Meeting.{plain-is, recv-is, send-is, choice-is, with-is, cancel-is}
use Rattle.gt_book.proofs.Going.{IsStep, step-is, recv-declared}

-- ---- who waits at a channel, a mutex or a WaitGroup

-- what a step that parks has met
module _ (script : Script) (s : State) (m : Schedule) (g : ℕ) (good : IsGood script) (fits : Fits script s m) (in_hand : status_of m g ≡ Some RunStatus.InHand) where
  parks-plain : (kind : CaseKind) (o : Option Entry) (at : CaseKind) → plain_step kind o ≡ Step.Parks at → (o ≡ None) × (kind ≡ at)
  parks-plain kind None at h = (refl, cc)
  parks-plain kind (Some e) at h = cc

  parks-by : (kind at : CaseKind) (i : Instr) → operation i 0 ≡ Some kind → stands_at script s g ≡ Some i → fault script s i ≡ None → object_of kind < length script.decls
      → plain_step kind (goes_by script s m (plainly g) kind) ≡ Step.Parks at → CanPark script s m g at
  parks-by kind at i has stands none within h =
      let parts = parks-plain kind (goes_by script s m (plainly g) kind) at h in
      let neither = or-none (goes_alone script s (plainly g) kind) (meets script s m (plainly g) kind) parts.0 in
      subst (CanPark script s m g) parts.1 (record {
        waiter = record { instr = i; stands = stands; has = has; in_hand = in_hand; declared = within };
        faultless = none;
        alone = unready-alone script s (plainly g) no_timer kind neither.0 (never-come script kind);
        partner = meets-nobody script s m g (plainly g) kind fits within neither.1;
      })

  parks-instr : (i : Instr) (kind : CaseKind) → stands_at script s g ≡ Some i → fault script s i ≡ None → step_of_instr script s m g i ≡ Step.Parks kind → CanPark script s m g kind
  parks-instr (Instr.Recv o) kind stands none h =
      let names : NamesRightly script (Instr.Recv o) = names-Does script s g (Instr.Recv o) good (record { stands = stands; calm = calm-standing script s g (Instr.Recv o) stands none }) in
      elim (is_chan script o || is_ctx script o)
      as (λ b. cond b (plain_step (CaseKind.Recv o) (goes_by script s m (plainly g) (CaseKind.Recv o))) (Step.Waits o) ≡ Step.Parks kind → CanPark script s m g kind) [
        | true ↦ λ k. parks-by (CaseKind.Recv o) kind (Instr.Recv o) refl stands none (recv-declared script o names) k
        | false ↦ λ k. cc
      ] h
  parks-instr (Instr.Send c v) kind stands none h =
      let names : NamesRightly script (Instr.Send c v) = names-Does script s g (Instr.Send c v) good (record { stands = stands; calm = calm-standing script s g (Instr.Send c v) stands none }) in
      parks-by (CaseKind.Send c v) kind (Instr.Send c v) refl stands none (chan_declared script c names) h
  parks-instr (Instr.Select cases default_to) kind stands none h =
      absurd (choice-is (λ step. step ≡ Step.Parks kind → ⊥) (λ e q. cc) (λ t q. cc) (λ timed q. cc) script s m g cases default_to h)
  parks-instr (Instr.Lock k) kind stands none h =
      let names : NamesRightly script (Instr.Lock k) = names-Does script s g (Instr.Lock k) good (record { stands = stands; calm = calm-standing script s g (Instr.Lock k) stands none }) in
      parks-by (CaseKind.Recv k) kind (Instr.Lock k) refl stands none (mutex_declared script k names) h
  parks-instr (Instr.Wait w) kind stands none h =
      let names : NamesRightly script (Instr.Wait w) = names-Does script s g (Instr.Wait w) good (record { stands = stands; calm = calm-standing script s g (Instr.Wait w) stands none }) in
      parks-by (CaseKind.Recv w) kind (Instr.Wait w) refl stands none (wg_declared script w names) h
  parks-instr (Instr.Sleep zero) kind stands none h = cc
  parks-instr (Instr.Sleep (suc d)) kind stands none h = cc
  parks-instr (Instr.With x) kind stands none h = absurd (with-is (λ step. step ≡ Step.Parks kind → ⊥) (λ e q. cc) (λ x due q. cc) script s m g x h)
  parks-instr (Instr.Cancel x cause) kind stands none h = absurd (cancel-is (λ step. step ≡ Step.Parks kind → ⊥) (λ e q. cc) (λ x q. cc) script s m g x cause h)
  parks-instr i kind stands none h = cc

pub parks-rightly : (script : Script) (s : State) (m : Schedule) (g : ℕ) (kind : CaseKind) → IsGood script → Fits script s m → status_of m g ≡ Some RunStatus.InHand
    → step_of script s m g ≡ Some (Step.Parks kind) → CanPark script s m g kind
parks-rightly script s m g kind good fits in_hand h =
    let step : IsStep script s m g (Step.Parks kind) = step-is script s m g (Step.Parks kind) h in
    elim (fault script s step.instr) as (λ o. fault script s step.instr ≡ o → step_or_panic script s m g step.instr o ≡ Step.Parks kind → CanPark script s m g kind) [
      | None ↦ λ q k. parks-instr script s m g good fits in_hand step.instr kind step.stands q k
      | Some reason ↦ λ q k. cc
    ] refl step.is

-- ---- who waits at a choice

-- what a step that waits at the cases of a choice has met
pub record CanChoose (script : Script) (s : State) (m : Schedule) (g : ℕ) : Type 0 where
  pub cases : List Case
  pub stands : stands_at script s g ≡ Some (Instr.Select cases None)
  pub names : IsGoodChoice script cases None
  pub waits : CanWait script s m g

-- what an operation names is declared
pub operates-declared : (script : Script) (kind : CaseKind) → OperatesRightly script kind → object_of kind < length script.decls
operates-declared script (CaseKind.Recv o) names = recv-declared script o names
operates-declared script (CaseKind.Send c v) names = chan_declared script c names

module _ (script : Script) (s : State) (m : Schedule) (g : ℕ) (good : IsGood script) (fits : Fits script s m) where
  none-goes : (n : ℕ) (cases : List Case) → AllByRecursion (λ (c : Case). OperatesRightly script c.kind) cases → NoneGoes script s m g false n cases
      → list_any (λ (c : Case). is_ready_case script s no_timer (is_waiting m) g c.kind) cases ≡ false
  none-goes n [] names none = refl
  none-goes n (c ∷ cases) names none =
      let nothing : goes_by script s m (at_case g n) c.kind ≡ None = no-step (goes_by script s m (at_case g n) c.kind) (come_timer script s (clock_of s g) c.kind) none.0 in
      let neither = or-none (goes_alone script s (at_case g n) c.kind) (meets script s m (at_case g n) c.kind) nothing in
      both-false (is_ready_case script s no_timer (is_waiting m) g c.kind) _
      (both-false (is_ready_alone script s no_timer c.kind) _ (unready-alone script s (at_case g n) no_timer c.kind neither.0 (never-come script c.kind))
      (meets-nobody script s m g (at_case g n) c.kind fits (operates-declared script c.kind names.0) neither.1))
      (none-goes (n + 1) cases names.1 none.1)
    where
      no-step : (e : Option Entry) (come : Option ℕ) → case_step e false come ≡ None → e ≡ None
      no-step None come h = refl
      no-step (Some e) come h = cc

  choice-waits : (cases : List Case) (default_to : Option ℕ) (step : Step) (timed : Bool) → stands_at script s g ≡ Some (Instr.Select cases default_to)
      → fault script s (Instr.Select cases default_to) ≡ None → ChoiceIs script s m g cases default_to step → step ≡ Step.Chooses timed → CanChoose script s m g
  choice-waits cases default_to step timed stands none (case_goes n kind e has by) h = cc
  choice-waits cases default_to step timed stands none (case_polls n kind t has come) h = cc
  choice-waits cases default_to step timed stands none (all_rest to is rest) h = cc
  choice-waits cases default_to step timed stands none (all_wait is rest) h =
      let here : stands_at script s g ≡ Some (Instr.Select cases None) = stands ∙ ap (λ o. Some (Instr.Select cases o)) is in
      let faultless : fault script s (Instr.Select cases None) ≡ None = none in
      let names : IsGoodChoice script cases None = names-Does script s g (Instr.Select cases None) good (record { stands = here; calm = calm-standing script s g (Instr.Select cases None) here faultless }) in
      record {
        cases = cases;
        stands = here;
        names = names;
        waits = record {
          instr = Instr.Select cases None;
          stands = here;
          firm = both-false (is_some (fault script s (Instr.Select cases None))) _ (ap is_some faultless)
              (none-goes 1 cases (recursion_from_All (λ (c : Case). OperatesRightly script c.kind) cases names.each) rest);
        };
      }

  chooses-instr : (i : Instr) (timed : Bool) → stands_at script s g ≡ Some i → fault script s i ≡ None → step_of_instr script s m g i ≡ Step.Chooses timed → CanChoose script s m g
  chooses-instr (Instr.Select cases default_to) timed stands none h = choice-waits cases default_to _ timed stands none (choice-so script s m g cases default_to) h
  chooses-instr (Instr.Recv o) timed stands none h =
      absurd (recv-is (λ step. step ≡ Step.Chooses timed → ⊥) (λ e q. cc) (λ kind q. cc) (λ t q. cc) script s m g o h)
  chooses-instr (Instr.Send c v) timed stands none h = absurd (send-is (λ step. step ≡ Step.Chooses timed → ⊥) (λ e q. cc) (λ kind q. cc) script s m g c v h)
  chooses-instr (Instr.Lock k) timed stands none h = absurd (plain-is (λ step. step ≡ Step.Chooses timed → ⊥) (λ e q. cc) (λ kind q. cc) (CaseKind.Recv k) (goes_by script s m (plainly g) (CaseKind.Recv k)) h)
  chooses-instr (Instr.Wait w) timed stands none h = absurd (plain-is (λ step. step ≡ Step.Chooses timed → ⊥) (λ e q. cc) (λ kind q. cc) (CaseKind.Recv w) (goes_by script s m (plainly g) (CaseKind.Recv w)) h)
  chooses-instr (Instr.Sleep zero) timed stands none h = cc
  chooses-instr (Instr.Sleep (suc d)) timed stands none h = cc
  chooses-instr (Instr.With x) timed stands none h = absurd (with-is (λ step. step ≡ Step.Chooses timed → ⊥) (λ e q. cc) (λ x due q. cc) script s m g x h)
  chooses-instr (Instr.Cancel x cause) timed stands none h = absurd (cancel-is (λ step. step ≡ Step.Chooses timed → ⊥) (λ e q. cc) (λ x q. cc) script s m g x cause h)
  chooses-instr i timed stands none h = cc

pub chooses-rightly : (script : Script) (s : State) (m : Schedule) (g : ℕ) → IsGood script → Fits script s m → IsTrue (chooses (step_of script s m g)) → CanChoose script s m g
chooses-rightly script s m g good fits h =
    elim (step_of script s m g) as (λ o. step_of script s m g ≡ o → chooses o ≡ true → CanChoose script s m g) [
      | None ↦ λ e k. cc
      | Some step ↦ λ e k. by step e k
    ] refl h
  where
    at : (timed : Bool) → step_of script s m g ≡ Some (Step.Chooses timed) → CanChoose script s m g
    at timed e =
        let step : IsStep script s m g (Step.Chooses timed) = step-is script s m g (Step.Chooses timed) e in
        elim (fault script s step.instr) as (λ o. fault script s step.instr ≡ o → step_or_panic script s m g step.instr o ≡ Step.Chooses timed → CanChoose script s m g) [
          | None ↦ λ q k. chooses-instr script s m g good fits step.instr timed step.stands q k
          | Some reason ↦ λ q k. cc
        ] refl step.is

    by : (step : Step) → step_of script s m g ≡ Some step → chooses (Some step) ≡ true → CanChoose script s m g
    by (Step.Chooses timed) e k = at timed e
    by (Step.Makes x) e k = cc
    by (Step.Waits t) e k = cc
    by (Step.Parks kind) e k = cc
    by (Step.Needs op) e k = cc
    by (Step.Broadcasts c) e k = cc
    by (Step.Cancels x) e k = cc
    by Step.Nowhere e k = cc
