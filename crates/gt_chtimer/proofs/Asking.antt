-- What a goroutine does that stands at an instruction on a timer: it panics, or its instruction needs the timer's record.
use Rattle.std.proofs.Common.{◌≡◌, ◌⊎◌, inl, inr, ℕ, refl, ap, subst, ◌∙◌, Option, None, Some, MatchOption}
use Rattle.gt_model.specs.declared.entry.Entry.{Entry}
use Rattle.gt_model.specs.declared.entry.Outcome.{Outcome}
use Rattle.gt_model.specs.declared.entry.Reason.{Reason}
use Rattle.gt_model.specs.declared.script.Instr.{Instr}
use Rattle.gt_rules.specs.State.{stands_at}
use Rattle.gt_rules.specs.Panics.{fault, fault_case}
use Rattle.gt_schedule.specs.Schedule.{at_case}
use Rattle.gt_model.specs.declared.entry.Party.{Party}
use Rattle.gt_book.specs.declared.answers.Did.{Did}
use Rattle.gt_book.specs.declared.answers.TimerOp.{TimerOp}
use Rattle.gt_book.specs.declared.step.Step.{Step}
use Rattle.gt_book.specs.Steps.{Does, DidEnter, Steps, step_of_instr, step_or_panic}
use Rattle.gt_book.specs.View.{BookView, Enters, outcome_of}
use Rattle.gt_rows.specs.Rows.{Answers, next_of}

-- its panic is its next step
pub record Panics (b : BookView) (g : ℕ) : Type 0 where
  pub party : Party
  pub reason : Reason
  pub step : next_of b g ≡ Some (Step.Makes (Entry.Panic party reason))

pub panic-or-needs : (b : BookView) (g : ℕ) (i : Instr) (op : TimerOp) → stands_at b.script b.state g ≡ Some i → step_of_instr b.script b.state b.schedule g i ≡ Step.Needs op
    → Panics b g ⊎ (next_of b g ≡ Some (Step.Needs op))
panic-or-needs b g i op stands needs =
    let is : next_of b g ≡ Some (step_or_panic b.script b.state b.schedule g i (fault b.script b.state i)) =
    ap (λ (o : Option Instr). elim o as (λ o. Option Step) [ None ↦ None | Some i ↦ Some (step_or_panic b.script b.state b.schedule g i (fault b.script b.state i)) ]) stands in
    elim (fault b.script b.state i) as (λ f. next_of b g ≡ Some (step_or_panic b.script b.state b.schedule g i f) → Panics b g ⊎ (next_of b g ≡ Some (Step.Needs op))) [
      | None ↦ λ k. inr (k ∙ ap Some needs)
      | Some reason ↦ λ k. inl (record { party = at_case g (fault_case b.state i); reason = reason; step = k })
    ] is

-- what a section answers where the step was made without it
abbrev pub Echoes : {Done : Type 0} → (Outcome → Done) → Done → Did → Done → Type 0
Echoes over fine Did.Entered done = done ≡ fine
Echoes over fine Did.Parked done = done ≡ fine
Echoes over fine (Did.Over outcome) done = done ≡ over outcome
Echoes over fine (Did.Timer op) done = ⊥

pub echoes-answers : {Done : Type 0} (over : Outcome → Done) (fine : Done) (new : BookView) (did : Did) (done : Done) → DidEnter new did → Echoes over fine did done
    → Answers new over done fine
echoes-answers over fine new did done entry echo =
    elim (outcome_of new) as (λ o. MatchOption o (did ≡ Did.Entered) (λ outcome. did ≡ Did.Over outcome) → MatchOption o (done ≡ fine) (λ outcome. done ≡ over outcome)) [
      | None ↦ λ is. subst (λ did. Echoes over fine did done) is echo
      | Some outcome ↦ λ is. subst (λ did. Echoes over fine did done) is echo
    ] entry

-- the panic was entered
pub record Panicked {Done : Type 0} (old : BookView) (g : ℕ) (new : BookView) (over : Outcome → Done) (fine done : Done) : Type 0 where
  pub panics : Panics old g
  pub entered : Enters old (Entry.Panic panics.party panics.reason) new
  pub answer : Answers new over done fine

-- without the record nothing happens but a panic
pub panicked : {Done : Type 0} (over : Outcome → Done) (fine : Done) (old : BookView) (g : ℕ) (op : TimerOp) (new : BookView) (did : Did) (done : Done)
    → Panics old g ⊎ (next_of old g ≡ Some (Step.Needs op)) → outcome_of old ≡ None → Steps old g new did → Echoes over fine did done
    → Panicked old g new over fine done
panicked over fine old g op new did done step running steps echo =
    let does : MatchOption (next_of old g) ⊥ (λ step. Does old g step new did) =
    subst (λ (o : Option Outcome). MatchOption o (MatchOption (next_of old g) ⊥ (λ step. Does old g step new did)) (λ outcome. (did ≡ Did.Over outcome) × (new ≡ old))) running steps in
    elim step [
      | inl p ↦
          let entry : Does old g (Step.Makes (Entry.Panic p.party p.reason)) new did = subst (λ o. MatchOption o ⊥ (λ step. Does old g step new did)) p.step does in
          record { panics = p; entered = entry.0; answer = echoes-answers over fine new did done entry.1 echo }
      | inr needs ↦
          let asks : Does old g (Step.Needs op) new did = subst (λ o. MatchOption o ⊥ (λ step. Does old g step new did)) needs does in
          absurd (subst (λ did. Echoes over fine did done) asks.1 echo)
    ]

-- where the run has its outcome the section answers it
pub record IsOver {Done : Type 0} (old : BookView) (outcome : Outcome) (new : BookView) (over : Outcome → Done) (done : Done) : Type 0 where
  pub answer : done ≡ over outcome
  pub same : new ≡ old

pub is-over : {Done : Type 0} (over : Outcome → Done) (fine : Done) (old : BookView) (g : ℕ) (outcome : Outcome) (new : BookView) (did : Did) (done : Done)
    → outcome_of old ≡ Some outcome → Steps old g new did → Echoes over fine did done → IsOver old outcome new over done
is-over over fine old g outcome new did done ended steps echo =
    let answer : (did ≡ Did.Over outcome) × (new ≡ old) =
    subst (λ (o : Option Outcome). MatchOption o (MatchOption (next_of old g) ⊥ (λ step. Does old g step new did)) (λ outcome. (did ≡ Did.Over outcome) × (new ≡ old))) ended steps in
    record { answer = subst (λ did. Echoes over fine did done) answer.0 echo; same = answer.1 }

-- a timer's operation is asked for while the run goes on
pub asks-running : (old : BookView) (g : ℕ) (new : BookView) (op : TimerOp) → Steps old g new (Did.Timer op) → outcome_of old ≡ None
asks-running old g new op steps =
    elim (outcome_of old) as (λ o. MatchOption o (MatchOption (next_of old g) ⊥ (λ step. Does old g step new (Did.Timer op))) (λ outcome. (Did.Timer op ≡ Did.Over outcome) × (new ≡ old)) → o ≡ None) [
      | None ↦ λ h. refl
      | Some outcome ↦ λ h. let is : Did.Timer op ≡ Did.Over outcome = h.0 in cc
    ] steps

no-panic : (p : Did) (o : Option Outcome) (op : TimerOp) → MatchOption o (Did.Timer op ≡ Did.Entered) (λ outcome. Did.Timer op ≡ Did.Over outcome) → ⊥
no-panic p None op h = cc
no-panic p (Some outcome) op h = cc

-- what was asked for is what the instruction needs, and nothing changed
pub record Asked (old : BookView) (g : ℕ) (op : TimerOp) (new : BookView) (asked : TimerOp) : Type 0 where
  pub step : next_of old g ≡ Some (Step.Needs op)
  pub running : outcome_of old ≡ None
  pub same : new ≡ old
  pub its : asked ≡ op

pub asked : (old : BookView) (g : ℕ) (op : TimerOp) (new : BookView) (wanted : TimerOp) → Panics old g ⊎ (next_of old g ≡ Some (Step.Needs op))
    → Steps old g new (Did.Timer wanted) → Asked old g op new wanted
asked old g op new wanted step steps =
    let running : outcome_of old ≡ None = asks-running old g new wanted steps in
    let does : MatchOption (next_of old g) ⊥ (λ step. Does old g step new (Did.Timer wanted)) =
    subst (λ (o : Option Outcome). MatchOption o (MatchOption (next_of old g) ⊥ (λ step. Does old g step new (Did.Timer wanted))) (λ outcome. (Did.Timer wanted ≡ Did.Over outcome) × (new ≡ old))) running steps in
    elim step [
      | inl p ↦
          let entry : Does old g (Step.Makes (Entry.Panic p.party p.reason)) new (Did.Timer wanted) = subst (λ o. MatchOption o ⊥ (λ step. Does old g step new (Did.Timer wanted))) p.step does in
          absurd (no-panic (Did.Timer wanted) (outcome_of new) wanted entry.1)
      | inr needs ↦
          let asks : Does old g (Step.Needs op) new (Did.Timer wanted) = subst (λ o. MatchOption o ⊥ (λ step. Does old g step new (Did.Timer wanted))) needs does in
          let answer : Did.Timer wanted ≡ Did.Timer op = asks.1 in
          record { step = needs; running = running; same = asks.0; its = cc }
    ]
