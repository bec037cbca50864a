-- What a step does that asks for no record. One that parks its goroutine at channels and contexts alone leaves records, heap and marks alone: no timer is awaited there.
use Rattle.std.proofs.Common.{◌≡◌, ℕ, cond, ◌||◌, List, [], ◌∷◌, map, refl, sym, ap, subst, ◌∙◌, Option, None, Some, MatchOption, Bool, true, false, inl, inr}
use Rattle.std.specs.List.{filter_map, cons_option, list_any}
use Rattle.std.proofs.lemmas.Bool.{cases_eq}
use Rattle.gt_model.specs.declared.script.Script.{Script}
use Rattle.gt_model.specs.declared.script.Instr.{Instr}
use Rattle.gt_model.specs.declared.script.Case.{Case}
use Rattle.gt_model.specs.declared.script.CaseKind.{CaseKind}
use Rattle.gt_model.specs.declared.entry.Outcome.{Outcome}
use Rattle.gt_model.specs.declared.entry.Reason.{Reason}
use Rattle.gt_model.specs.Good.{awaits_timer}
use Rattle.gt_model.specs.declared.script.What.{What}
use Rattle.gt_model.specs.Script.{what_at, is_chan, is_ctx, names_timer, names_chan, names_ctx}
use Rattle.gt_rules.specs.State.{State, stands_at}
use Rattle.gt_rules.specs.Panics.{fault}
use Rattle.gt_schedule.specs.declared.status.RunStatus.{RunStatus}
use Rattle.gt_schedule.specs.Schedule.{Schedule, plainly, status_of, marks_at, ticket_of}
use Rattle.gt_book.specs.declared.step.Step.{Step}
use Rattle.gt_book.specs.declared.answers.TimerOp.{TimerOp}
use Rattle.gt_book.specs.declared.answers.Did.{Did}
use Rattle.gt_book.specs.Steps.{timer_of, cases_of, goes_by, plain_step, step_of_instr, step_or_panic, Does, Steps}
use Rattle.gt_book.specs.View.{BookView, with_schedule}
use Rattle.gt_book.proofs.Going.{IsStep, step-is}
use Rattle.gt_book.proofs.Meeting.{with-is, cancel-is}
use Rattle.gt_book.proofs.Options.{ChoiceIs, case_goes, case_polls, all_rest, all_wait, choice-so}
use Rattle.gt_rows.specs.Rows.{next_of}
use Rattle.gt_runner.specs.declared.runner.Runner.{Runner}
use Rattle.gt_runner.specs.Served.{NamesTimers, MarkFitsAt, awaited_by, timers_of}
use Rattle.gt_runner.specs.Calls.{After, Ready}
use Rattle.gt_runner.proofs.Fitting.{MarksFit, fit-is}
use Rattle.gt_runner.proofs.Passes.{WasParked, was-parked_at, was-parked_cases, goes-waits}
use Rattle.gt_runner.proofs.Tending.{tended-spared}
use Rattle.gt_runner.proofs.Calling.{after-makes, after-broadcasts, after-cancels}
use Rattle.gt_runner.proofs.Enrolling.{parked-marks_at, parked-status, parked-others, parked-named, none-marked, spares-parked}

-- ---- the timers that are awaited at channels and contexts

other-plain : (w : Option What) → (names_chan w || names_ctx w) ≡ true → names_timer w ≡ false
other-plain (Some What.Timer) h = cc
other-plain (Some What.Ticker) h = cc
other-plain _ h = refl

untimed : (script : Script) (kind : CaseKind) → awaits_timer script kind ≡ false → timer_of script kind ≡ None
untimed script (CaseKind.Recv o) h = ap (λ b. cond b (Some o) None) h
untimed script (CaseKind.Send c v) h = refl

untimed-cases : (script : Script) (cases : List Case) → list_any (λ (c : Case). awaits_timer script c.kind) cases ≡ false
    → filter_map (timer_of script) (map (λ (c : Case). c.kind) cases) ≡ []
untimed-cases script [] h = refl
untimed-cases script (c ∷ cases) h =
    let none = both-false (awaits_timer script c.kind) (list_any (λ (c : Case). awaits_timer script c.kind) cases) h in
    ap (λ o. cons_option o (filter_map (timer_of script) (map (λ (c : Case). c.kind) cases))) (untimed script c.kind none.0) ∙ untimed-cases script cases none.1
  where
    both-false : (a b : Bool) → (a || b) ≡ false → (a ≡ false) × (b ≡ false)
    both-false true b h = cc
    both-false false b h = (refl, h)

-- a step that asks for no record parks its goroutine where it awaits no timer
abbrev ParksUntimed : Step → Type 0
ParksUntimed (Step.Parks kind) = Unit {0}
ParksUntimed (Step.Chooses timed) = timed ≡ false
ParksUntimed _ = ⊥

choice-untimed : (script : Script) (s : State) (m : Schedule) (g : ℕ) (cases : List Case) (default_to : Option ℕ) (step : Step) → ChoiceIs script s m g cases default_to step
    → ParksUntimed step → timers_of script (Instr.Select cases default_to) ≡ []
choice-untimed script s m g cases default_to step (case_goes n kind e has by) h = absurd h
choice-untimed script s m g cases default_to step (case_polls n kind t has come) h = absurd h
choice-untimed script s m g cases default_to step (all_rest to is rest) h = absurd h
choice-untimed script s m g cases default_to step (all_wait is rest) h = untimed-cases script cases h

instr-untimed : (script : Script) (s : State) (m : Schedule) (g : ℕ) (i : Instr) → ParksUntimed (step_of_instr script s m g i) → timers_of script i ≡ []
instr-untimed script s m g (Instr.Recv o) h =
    elim (is_chan script o || is_ctx script o) as (λ b. (is_chan script o || is_ctx script o) ≡ b
    → ParksUntimed (cond b (plain_step (CaseKind.Recv o) (goes_by script s m (plainly g) (CaseKind.Recv o))) (Step.Waits o)) → timers_of script (Instr.Recv o) ≡ []) [
      | true ↦ λ other k. ap (λ b. cons_option (cond b (Some o) None) []) (other-plain (what_at script o) other)
      | false ↦ λ plain k. absurd k
    ] refl h
instr-untimed script s m g (Instr.With x) h = absurd (with-is (λ step. ParksUntimed step → ⊥) (λ e k. absurd k) (λ y due k. absurd k) script s m g x h)
instr-untimed script s m g (Instr.Cancel x cause) h = absurd (cancel-is (λ step. ParksUntimed step → ⊥) (λ e k. absurd k) (λ y k. absurd k) script s m g x cause h)
instr-untimed script s m g (Instr.Select cases default_to) h =
    choice-untimed script s m g cases default_to (step_of_instr script s m g (Instr.Select cases default_to)) (choice-so script s m g cases default_to) h
instr-untimed script s m g _ h = refl

parks-awaits : (v : BookView) (g : ℕ) (step : Step) → next_of v g ≡ Some step → ParksUntimed step → awaited_by v.script v.state g ≡ []
parks-awaits v g wanted e parks =
    let step : IsStep v.script v.state v.schedule g wanted = step-is v.script v.state v.schedule g wanted e in
    ap (λ (o : Option Instr). elim o as (λ _. List ℕ) [ None ↦ [] | Some i ↦ timers_of v.script i ]) step.stands
    ∙ elim (fault v.script v.state step.instr) as (λ (o : Option Reason). ParksUntimed (step_or_panic v.script v.state v.schedule g step.instr o) → timers_of v.script step.instr ≡ []) [
      | None ↦ λ k. instr-untimed v.script v.state v.schedule g step.instr k
      | Some reason ↦ λ k. absurd k
    ] (subst ParksUntimed (sym step.is) parks)

-- ---- the call

parked-fits : (x : Runner) (g : ℕ) (n : Schedule) → Ready x g → WasParked x.book.schedule n g → awaited_by x.book.script x.book.state g ≡ []
    → MarksFit (with_schedule x.book n)
parked-fits x g n ready was none h =
    let m : Schedule = x.book.schedule in
    let now : RunStatus = RunStatus.Parked m.parks in
    elim (cases_eq h g) [
      | inl e ↦
          subst (λ k. MarkFitsAt x.book.script x.book.state n k) (sym e)
          (fit-is (marks_at n g) [] (awaited_by x.book.script x.book.state g) [] (status_of n g) (Some now) (parked-marks_at m n g g was ∙ none-marked x g ready) none
          (parked-status m n g was ready.alone.in_hand) refl)
      | inr other ↦ parked-others x.book n g h was other (ready.served.marks h)
    ]

after-parks : (x x' : Runner) (g : ℕ) (step : Step) (n : Schedule) → Ready x g → next_of x.book g ≡ Some step → ParksUntimed step → x'.book ≡ with_schedule x.book n → WasParked x.book.schedule n g
    → x'.records ≡ x.records → x'.heap ≡ x.heap → x'.noted ≡ x.noted → After x x' g
after-parks x x' g step n ready next parks is was records_are heap_is noted_is = record {
  goes = goes-waits x.book x'.book g n is was.statuses ready.alone;
  served = record {
    tended = tended-spared x x' ready.served.tended (spares-parked x x' n is was.marks records_are heap_is noted_is);
    marks = subst MarksFit (sym is) (parked-fits x g n ready was (parks-awaits x.book g step next parks));
    named = subst NamesTimers (sym is) (parked-named x.book n g was ready.served.named);
  };
}

-- a step that asks for no record
does-after : (x x' : Runner) (g : ℕ) (step : Step) (did : Did) → Ready x g → next_of x.book g ≡ Some step → Does x.book g step x'.book did → ((w : TimerOp) → did ≡ Did.Timer w → ⊥)
    → x'.records ≡ x.records → x'.heap ≡ x.heap → x'.noted ≡ x.noted → After x x' g
does-after x x' g (Step.Makes e) did ready next does other records_are heap_is noted_is = after-makes x x' g e ready next does.0 records_are heap_is noted_is
does-after x x' g (Step.Waits t) did ready next does other records_are heap_is noted_is = absurd (other (TimerOp.Enrolled (ticket_of x.book.schedule g)) does.1)
does-after x x' g (Step.Parks kind) did ready next does other records_are heap_is noted_is =
    after-parks x x' g (Step.Parks kind) _ ready next tt does.0 (was-parked_at x.book.schedule g kind) records_are heap_is noted_is
does-after x x' g (Step.Chooses true) did ready next does other records_are heap_is noted_is = absurd (other (TimerOp.Enrolled (ticket_of x.book.schedule g)) does.1)
does-after x x' g (Step.Chooses false) did ready next does other records_are heap_is noted_is =
    after-parks x x' g (Step.Chooses false) _ ready next refl does.0 (was-parked_cases x.book.schedule g (cases_of (stands_at x.book.script x.book.state g))) records_are heap_is noted_is
does-after x x' g (Step.Broadcasts k) did ready next does other records_are heap_is noted_is =
    after-broadcasts x x' g k ready next does.0 records_are heap_is noted_is
does-after x x' g (Step.Cancels c) did ready next does other records_are heap_is noted_is = after-cancels x x' g c ready does.0 records_are heap_is noted_is
does-after x x' g (Step.Needs op) did ready next does other records_are heap_is noted_is = absurd (other op does.1)
does-after x x' g Step.Nowhere did ready next does other records_are heap_is noted_is = absurd does

pub steps-after : (x x' : Runner) (g : ℕ) (did : Did) → Ready x g → Steps x.book g x'.book did → ((w : TimerOp) → did ≡ Did.Timer w → ⊥)
    → x'.records ≡ x.records → x'.heap ≡ x.heap → x'.noted ≡ x.noted → After x x' g
steps-after x x' g did ready h other records_are heap_is noted_is =
    let does : MatchOption (next_of x.book g) ⊥ (λ step. Does x.book g step x'.book did) =
    subst (λ (o : Option Outcome). MatchOption o (MatchOption (next_of x.book g) ⊥ (λ step. Does x.book g step x'.book did)) (λ outcome. (did ≡ Did.Over outcome) × (x'.book ≡ x.book))) ready.running h in
    elim (next_of x.book g) as (λ o. next_of x.book g ≡ o → MatchOption o ⊥ (λ step. Does x.book g step x'.book did) → After x x' g) [
      | None ↦ λ q k. absurd k
      | Some step ↦ λ q k. does-after x x' g step did ready q k other records_are heap_is noted_is
    ] refl does
