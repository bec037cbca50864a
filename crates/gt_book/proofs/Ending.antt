-- What ends a context: a goroutine in hand that cancels it, or its own deadline.
use Rattle.std.proofs.Common.{◌≡◌, ℕ, zero, suc, refl, sym, ap, subst, ◌∙◌, Option, None, Some, Bool, true, false, not}
use Rattle.gt_model.specs.declared.script.Script.{Script}
use Rattle.gt_model.specs.declared.script.Instr.{Instr}
use Rattle.gt_model.specs.declared.script.CaseKind.{CaseKind}
use Rattle.gt_model.specs.declared.entry.Entry.{Entry}
use Rattle.gt_rules.specs.State.{State, has_ended}
use Rattle.gt_rules.specs.Contexts.{start_count}
use Rattle.gt_rules.specs.Legal.{May, Does, Expires}
use Rattle.gt_rules.specs.Panics.{fault}
use Rattle.gt_machine.specs.Machine.{state_of}
use Rattle.gt_schedule.specs.declared.status.RunStatus.{RunStatus}
use Rattle.gt_schedule.specs.Schedule.{Schedule, plainly, status_of}
use Rattle.gt_book.specs.declared.book.Book.TheInside.{Inside}
use Rattle.gt_book.specs.declared.step.Step.{Step}
use Rattle.gt_book.specs.Steps.{step_of, step_or_panic, step_of_instr, goes_by, cancels}
use Rattle.gt_book.specs.View.{BookView, outcome_of}
use Rattle.gt_book.specs.Book.{seen, IsKept}
use Rattle.gt_book.specs.Run.{CanEnter}
use Rattle.gt_book.proofs.Firm.{calm-standing}
use Rattle.gt_book.proofs.Meeting.{plain-is, recv-is, send-is, choice-is, with-is}
use Rattle.gt_book.proofs.Going.{IsStep, step-is, in_hand-goes}
use Rattle.gt_book.proofs.Runs.{can_enter-seen}

-- an instruction that cancels a context that has not ended
record Cancels (s : State) (x : ℕ) (i : Instr) : Type 0 where
  named : Option ℕ
  is : i ≡ Instr.Cancel x named
  newly : true ≡ not (has_ended s x)

by-ended : (s : State) (g y x : ℕ) (named : Option ℕ) (b : Bool) → has_ended s y ≡ b → cancels g y b ≡ Step.Cancels x → Cancels s x (Instr.Cancel y named)
by-ended s g y x named true e h = cc
by-ended s g y x named false e h =
    let same : y ≡ x = cc in
    record { named = named; is = ap (λ y. Instr.Cancel y named) same; newly = ap not (sym e) ∙ ap (λ y. not (has_ended s y)) same }

-- the step is of its instruction
instr-cancels : (script : Script) (s : State) (m : Schedule) (g x : ℕ) (i : Instr) → step_of_instr script s m g i ≡ Step.Cancels x → Cancels s x i
instr-cancels script s m g x (Instr.Cancel y named) h = by-ended s g y x named (has_ended s y) refl h
instr-cancels script s m g x (Instr.Sleep d) h = sleeps d h
  where
    sleeps : (d : ℕ) → step_of_instr script s m g (Instr.Sleep d) ≡ Step.Cancels x → Cancels s x (Instr.Sleep d)
    sleeps zero h = cc
    sleeps (suc d) h = cc
instr-cancels script s m g x (Instr.Recv o) h = absurd (recv-is (λ step. step ≡ Step.Cancels x → ⊥) (λ e q. cc) (λ kind q. cc) (λ t q. cc) script s m g o h)
instr-cancels script s m g x (Instr.Send c v) h = absurd (send-is (λ step. step ≡ Step.Cancels x → ⊥) (λ e q. cc) (λ kind q. cc) script s m g c v h)
instr-cancels script s m g x (Instr.Select cases default_to) h =
    absurd (choice-is (λ step. step ≡ Step.Cancels x → ⊥) (λ e q. cc) (λ t q. cc) (λ timed q. cc) script s m g cases default_to h)
instr-cancels script s m g x (Instr.Lock o) h =
    absurd (plain-is (λ step. step ≡ Step.Cancels x → ⊥) (λ e q. cc) (λ kind q. cc) (CaseKind.Recv o) (goes_by script s m (plainly g) (CaseKind.Recv o)) h)
instr-cancels script s m g x (Instr.Wait w) h =
    absurd (plain-is (λ step. step ≡ Step.Cancels x → ⊥) (λ e q. cc) (λ kind q. cc) (CaseKind.Recv w) (goes_by script s m (plainly g) (CaseKind.Recv w)) h)
instr-cancels script s m g x (Instr.With y) h = absurd (with-is (λ step. step ≡ Step.Cancels x → ⊥) (λ e q. cc) (λ t due q. cc) script s m g y h)
instr-cancels script s m g x _ h = cc

-- who makes the entry stands at it, without a misuse
cancels-may : (script : Script) (s : State) (m : Schedule) (g x n : ℕ) → step_of script s m g ≡ Some (Step.Cancels x) → n ≡ start_count script s x → May script s (Entry.Cancel g x true n)
cancels-may script s m g x n h count =
    let step : IsStep script s m g (Step.Cancels x) = step-is script s m g (Step.Cancels x) h in
    elim (fault script s step.instr) as (λ o. fault script s step.instr ≡ o → step_or_panic script s m g step.instr o ≡ Step.Cancels x → May script s (Entry.Cancel g x true n)) [
      | None ↦ λ q l.
          let its : Cancels s x step.instr = instr-cancels script s m g x step.instr l in
          let does : Does script s g step.instr = record { stands = step.stands; calm = calm-standing script s g step.instr step.stands q } in
          (its.named, subst (Does script s g) its.is does, its.newly, count)
      | Some reason ↦ λ q l. cc
    ] refl step.is

-- its entry may come
pub can-cancel : (b : Inside) (v : BookView) (g x : ℕ) → seen b ≡ v → IsKept b → outcome_of v ≡ None → status_of v.schedule g ≡ Some RunStatus.InHand
    → step_of v.script v.state v.schedule g ≡ Some (Step.Cancels x)
    → CanEnter b.script b.limits b.run (Entry.Cancel g x true (start_count b.script (state_of b.run.machine) x))
can-cancel b v g x is kept running in_hand step =
    let n : ℕ = start_count b.script (state_of b.run.machine) x in
    let count : n ≡ start_count v.script v.state x = ap (λ (v : BookView). start_count v.script v.state x) is in
    can_enter-seen b v (Entry.Cancel g x true n) is kept running
    (cancels-may v.script v.state v.schedule g x n step count) (in_hand-goes (status_of v.schedule g) in_hand, tt)

-- and that of a deadline that has come
pub can-expire : (b : Inside) (v : BookView) (x : ℕ) → seen b ≡ v → IsKept b → outcome_of v ≡ None → Expires v.state x
    → CanEnter b.script b.limits b.run (Entry.Expire x (start_count b.script (state_of b.run.machine) x))
can-expire b v x is kept running expires =
    let n : ℕ = start_count b.script (state_of b.run.machine) x in
    let count : n ≡ start_count v.script v.state x = ap (λ (v : BookView). start_count v.script v.state x) is in
    can_enter-seen b v (Entry.Expire x n) is kept running (expires, count) (tt, tt)
