-- A step that asks for a timer's record, and the instruction that does.
use Rattle.std.proofs.Common.{◌≡◌, ℕ, zero, suc, Bool, true, false, refl, sym, ap, subst, ◌∙◌, Option, None, Some, MatchOption, ◌⊎◌, inl, inr}
use Rattle.gt_model.specs.declared.entry.Outcome.{Outcome}
use Rattle.gt_book.specs.declared.answers.Did.{Did}
use Rattle.gt_book.specs.declared.answers.TimerOp.{TimerOp}
use Rattle.gt_book.specs.declared.step.Step.{Step}
use Rattle.gt_model.specs.declared.script.Script.{Script}
use Rattle.gt_model.specs.declared.script.Instr.{Instr}
use Rattle.gt_model.specs.declared.script.CaseKind.{CaseKind}
use Rattle.gt_rules.specs.State.{State, stands_at}
use Rattle.gt_rules.specs.Panics.{fault}
use Rattle.gt_schedule.specs.declared.status.Ticket.{Ticket}
use Rattle.gt_schedule.specs.Schedule.{Schedule, plainly, parked_at, parked_cases, ticket_of}
use Rattle.gt_book.specs.Steps.{Does, Steps, cases_of, goes_by, set_instr, step_of, step_of_instr, step_or_panic}
use Rattle.gt_book.proofs.Meeting.{plain-is, recv-is, send-is, choice-is, with-is, cancel-is}
use Rattle.gt_book.proofs.Going.{IsStep, step-is}
use Rattle.gt_book.specs.View.{BookView, outcome_of, with_schedule}

-- an answer after an entry is none of a timer
entered-no_timer : (o : Option Outcome) (op : TimerOp) → MatchOption o (Did.Timer op ≡ Did.Entered) (λ outcome. Did.Timer op ≡ Did.Over outcome) → ⊥
entered-no_timer None op h = cc
entered-no_timer (Some outcome) op h = cc

-- whether an operation says that its goroutine waits already
abbrev pub is_enrolled : TimerOp → Bool
is_enrolled (TimerOp.Enrolled ticket) = true
is_enrolled (TimerOp.Set t d anew) = false
is_enrolled (TimerOp.Stop t) = false
is_enrolled (TimerOp.Sleep d) = false
is_enrolled (TimerOp.Poll t) = false
is_enrolled (TimerOp.Deadline x due) = false

true-false : (b : Bool) → b ≡ true → b ≡ false → ⊥
true-false true e h = cc
true-false false e h = cc

-- a step whose answer is a timer's operation needs it, and changed nothing
pub record NeedsOnly (old : BookView) (g : ℕ) (op : TimerOp) (new : BookView) : Type 0 where
  pub needs : step_of old.script old.state old.schedule g ≡ Some (Step.Needs op)
  pub same : new ≡ old

does-timer : (old : BookView) (g : ℕ) (step : Step) (new : BookView) (op : TimerOp) → step_of old.script old.state old.schedule g ≡ Some step → is_enrolled op ≡ false → Does old g step new (Did.Timer op) → NeedsOnly old g op new
does-timer old g (Step.Makes e) new op is other h = absurd (entered-no_timer (outcome_of new) op h.1)
does-timer old g (Step.Cancels x) new op is other h = absurd (entered-no_timer (outcome_of new) op h.1)
does-timer old g (Step.Broadcasts k) new op is other h = absurd (entered-no_timer (outcome_of new) op h.1)
does-timer old g (Step.Waits t) new op is other h =
    let answer : Did.Timer op ≡ Did.Timer (TimerOp.Enrolled (ticket_of old.schedule g)) = h.1 in
    let enrolled : op ≡ TimerOp.Enrolled (ticket_of old.schedule g) = cc in
    absurd (true-false (is_enrolled op) (ap is_enrolled enrolled) other)
does-timer old g (Step.Chooses true) new op is other h =
    let answer : Did.Timer op ≡ Did.Timer (TimerOp.Enrolled (ticket_of old.schedule g)) = h.1 in
    let enrolled : op ≡ TimerOp.Enrolled (ticket_of old.schedule g) = cc in
    absurd (true-false (is_enrolled op) (ap is_enrolled enrolled) other)
does-timer old g (Step.Chooses false) new op is other h = let answer : Did.Timer op ≡ Did.Parked = h.1 in cc
does-timer old g (Step.Parks kind) new op is other h = let answer : Did.Timer op ≡ Did.Parked = h.1 in cc
does-timer old g (Step.Needs wanted) new op is other h =
    let answer : Did.Timer op ≡ Did.Timer wanted = h.1 in
    let same : op ≡ wanted = cc in
    record { needs = is ∙ ap (λ w. Some (Step.Needs w)) (sym same); same = h.0 }
does-timer old g Step.Nowhere new op is other h = absurd h

pub steps-timer : (old : BookView) (g : ℕ) (new : BookView) (op : TimerOp) → outcome_of old ≡ None → is_enrolled op ≡ false → Steps old g new (Did.Timer op) → NeedsOnly old g op new
steps-timer old g new op none other h =
    let does : MatchOption (step_of old.script old.state old.schedule g) ⊥ (λ step. Does old g step new (Did.Timer op)) =
    subst (λ (o : Option Outcome). MatchOption o (MatchOption (step_of old.script old.state old.schedule g) ⊥ (λ step. Does old g step new (Did.Timer op))) (λ outcome. (Did.Timer op ≡ Did.Over outcome) × (new ≡ old))) none h in
    elim (step_of old.script old.state old.schedule g) as (λ o. step_of old.script old.state old.schedule g ≡ o → MatchOption o ⊥ (λ step. Does old g step new (Did.Timer op)) → NeedsOnly old g op new) [
      | None ↦ λ q k. absurd k
      | Some step ↦ λ q k. does-timer old g step new op q other k
    ] refl does

-- a step that parked its goroutine at the receive of a timer, or at the cases of a choice of which one receives from a timer
pub record ParksPlainly (old : BookView) (g : ℕ) (new : BookView) : Type 0 where
  pub at : ℕ
  pub waits : step_of old.script old.state old.schedule g ≡ Some (Step.Waits at)
  pub parked : new ≡ with_schedule old (parked_at old.schedule (plainly g) (CaseKind.Recv at))

pub record ParksAtCases (old : BookView) (g : ℕ) (new : BookView) : Type 0 where
  pub waits : step_of old.script old.state old.schedule g ≡ Some (Step.Chooses true)
  pub parked : new ≡ with_schedule old (parked_cases old.schedule g (cases_of (stands_at old.script old.state g)))

-- and did so under this ticket
pub record ParksUnder (old : BookView) (g : ℕ) (ticket : Ticket) (new : BookView) : Type 0 where
  pub way : ParksPlainly old g new ⊎ ParksAtCases old g new
  pub its : ticket ≡ ticket_of old.schedule g

-- no instruction asks for that
abbrev needs_enrolled : Step → Bool
needs_enrolled (Step.Needs op) = is_enrolled op
needs_enrolled _ = false

none-enrolled : (script : Script) (s : State) (m : Schedule) (g : ℕ) (i : Instr) → needs_enrolled (step_of_instr script s m g i) ≡ false
none-enrolled script s m g (Instr.Sleep zero) = refl
none-enrolled script s m g (Instr.Sleep (suc d)) = refl
none-enrolled script s m g (Instr.Recv o) = recv-is (λ step. needs_enrolled step ≡ false) (λ e. refl) (λ kind. refl) (λ t. refl) script s m g o
none-enrolled script s m g (Instr.Send c v) = send-is (λ step. needs_enrolled step ≡ false) (λ e. refl) (λ kind. refl) script s m g c v
none-enrolled script s m g (Instr.Select cases default_to) =
    choice-is (λ step. needs_enrolled step ≡ false) (λ e. refl) (λ t. refl) (λ timed. refl) script s m g cases default_to
none-enrolled script s m g (Instr.Lock k) = plain-is (λ step. needs_enrolled step ≡ false) (λ e. refl) (λ kind. refl) (CaseKind.Recv k) (goes_by script s m (plainly g) (CaseKind.Recv k))
none-enrolled script s m g (Instr.Wait w) = plain-is (λ step. needs_enrolled step ≡ false) (λ e. refl) (λ kind. refl) (CaseKind.Recv w) (goes_by script s m (plainly g) (CaseKind.Recv w))
none-enrolled script s m g (Instr.With x) = with-is (λ step. needs_enrolled step ≡ false) (λ e. refl) (λ x due. refl) script s m g x
none-enrolled script s m g (Instr.Cancel x cause) = cancel-is (λ step. needs_enrolled step ≡ false) (λ e. refl) (λ x. refl) script s m g x cause
none-enrolled script s m g _ = refl

asks-not_enrolled : (script : Script) (s : State) (m : Schedule) (g : ℕ) (i : Instr) (op : TimerOp) → step_of_instr script s m g i ≡ Step.Needs op → is_enrolled op ≡ false
asks-not_enrolled script s m g i op h = sym (ap needs_enrolled h) ∙ none-enrolled script s m g i

-- the instruction that asks to set a timer
abbrev asked_by : Instr → Step → Instr
asked_by i (Step.Needs (TimerOp.Set t d anew)) = set_instr t d anew
asked_by i _ = i

same-instr : (script : Script) (s : State) (m : Schedule) (g : ℕ) (i : Instr) → asked_by i (step_of_instr script s m g i) ≡ i
same-instr script s m g (Instr.Sleep zero) = refl
same-instr script s m g (Instr.Sleep (suc d)) = refl
same-instr script s m g (Instr.Recv o) = recv-is (λ step. asked_by (Instr.Recv o) step ≡ Instr.Recv o) (λ e. refl) (λ kind. refl) (λ t. refl) script s m g o
same-instr script s m g (Instr.Send c v) = send-is (λ step. asked_by (Instr.Send c v) step ≡ Instr.Send c v) (λ e. refl) (λ kind. refl) script s m g c v
same-instr script s m g (Instr.Select cases default_to) =
    choice-is (λ step. asked_by (Instr.Select cases default_to) step ≡ Instr.Select cases default_to) (λ e. refl) (λ t. refl) (λ timed. refl) script s m g cases default_to
same-instr script s m g (Instr.Lock k) = plain-is (λ step. asked_by (Instr.Lock k) step ≡ Instr.Lock k) (λ e. refl) (λ kind. refl) (CaseKind.Recv k) (goes_by script s m (plainly g) (CaseKind.Recv k))
same-instr script s m g (Instr.Wait w) = plain-is (λ step. asked_by (Instr.Wait w) step ≡ Instr.Wait w) (λ e. refl) (λ kind. refl) (CaseKind.Recv w) (goes_by script s m (plainly g) (CaseKind.Recv w))
same-instr script s m g (Instr.With x) = with-is (λ step. asked_by (Instr.With x) step ≡ Instr.With x) (λ e. refl) (λ x due. refl) script s m g x
same-instr script s m g (Instr.Cancel x cause) = cancel-is (λ step. asked_by (Instr.Cancel x cause) step ≡ Instr.Cancel x cause) (λ e. refl) (λ x. refl) script s m g x cause
same-instr script s m g _ = refl

pub instr-set : (script : Script) (s : State) (m : Schedule) (g t d : ℕ) (anew : Bool) (i : Instr) → step_of_instr script s m g i ≡ Step.Needs (TimerOp.Set t d anew) → i ≡ set_instr t d anew
instr-set script s m g t d anew i h = sym (same-instr script s m g i) ∙ ap (asked_by i) h

needs-not_enrolled : (old : BookView) (g : ℕ) (op : TimerOp) → step_of old.script old.state old.schedule g ≡ Some (Step.Needs op) → is_enrolled op ≡ false
needs-not_enrolled old g op h =
    let step : IsStep old.script old.state old.schedule g (Step.Needs op) = step-is old.script old.state old.schedule g (Step.Needs op) h in
    elim (fault old.script old.state step.instr) as (λ o. step_or_panic old.script old.state old.schedule g step.instr o ≡ Step.Needs op → is_enrolled op ≡ false) [
      | None ↦ λ k. asks-not_enrolled old.script old.state old.schedule g step.instr op k
      | Some reason ↦ λ k. cc
    ] step.is

does-enrolled : (old : BookView) (g : ℕ) (step : Step) (new : BookView) (ticket : Ticket) → step_of old.script old.state old.schedule g ≡ Some step
    → Does old g step new (Did.Timer (TimerOp.Enrolled ticket)) → ParksUnder old g ticket new
does-enrolled old g (Step.Makes e) new ticket is h = absurd (entered-no_timer (outcome_of new) (TimerOp.Enrolled ticket) h.1)
does-enrolled old g (Step.Cancels x) new ticket is h = absurd (entered-no_timer (outcome_of new) (TimerOp.Enrolled ticket) h.1)
does-enrolled old g (Step.Broadcasts k) new ticket is h = absurd (entered-no_timer (outcome_of new) (TimerOp.Enrolled ticket) h.1)
does-enrolled old g (Step.Waits t) new ticket is h =
    let answer : Did.Timer (TimerOp.Enrolled ticket) ≡ Did.Timer (TimerOp.Enrolled (ticket_of old.schedule g)) = h.1 in
    record { way = inl (record { at = t; waits = is; parked = h.0 }); its = cc }
does-enrolled old g (Step.Chooses true) new ticket is h =
    let answer : Did.Timer (TimerOp.Enrolled ticket) ≡ Did.Timer (TimerOp.Enrolled (ticket_of old.schedule g)) = h.1 in
    record { way = inr (record { waits = is; parked = h.0 }); its = cc }
does-enrolled old g (Step.Chooses false) new ticket is h = let answer : Did.Timer (TimerOp.Enrolled ticket) ≡ Did.Parked = h.1 in cc
does-enrolled old g (Step.Parks kind) new ticket is h = let answer : Did.Timer (TimerOp.Enrolled ticket) ≡ Did.Parked = h.1 in cc
does-enrolled old g (Step.Needs wanted) new ticket is h =
    let answer : Did.Timer (TimerOp.Enrolled ticket) ≡ Did.Timer wanted = h.1 in
    let same : wanted ≡ TimerOp.Enrolled ticket = cc in
    absurd (true-false (is_enrolled wanted) (ap is_enrolled same) (needs-not_enrolled old g wanted is))
does-enrolled old g Step.Nowhere new ticket is h = absurd h

pub steps-enrolled : (old : BookView) (g : ℕ) (new : BookView) (ticket : Ticket) → outcome_of old ≡ None → Steps old g new (Did.Timer (TimerOp.Enrolled ticket)) → ParksUnder old g ticket new
steps-enrolled old g new ticket none h =
    let did : Did = Did.Timer (TimerOp.Enrolled ticket) in
    let does : MatchOption (step_of old.script old.state old.schedule g) ⊥ (λ step. Does old g step new did) =
    subst (λ (o : Option Outcome). MatchOption o (MatchOption (step_of old.script old.state old.schedule g) ⊥ (λ step. Does old g step new did)) (λ outcome. (did ≡ Did.Over outcome) × (new ≡ old))) none h in
    elim (step_of old.script old.state old.schedule g) as (λ o. step_of old.script old.state old.schedule g ≡ o → MatchOption o ⊥ (λ step. Does old g step new did) → ParksUnder old g ticket new) [
      | None ↦ λ q k. absurd k
      | Some step ↦ λ q k. does-enrolled old g step new ticket q k
    ] refl does
