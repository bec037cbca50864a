-- What a goroutine in hand does that signals all who wait at a Cond.
use Rattle.std.proofs.Common.{◌≡◌, ℕ, zero, suc, refl, sym, ap, subst, None, Some}
use Rattle.gt_model.specs.declared.script.Script.{Script}
use Rattle.gt_model.specs.declared.script.Instr.{Instr}
use Rattle.gt_model.specs.declared.script.CaseKind.{CaseKind}
use Rattle.gt_model.specs.declared.entry.Entry.{Entry}
use Rattle.gt_rules.specs.State.{State, suspended_count}
use Rattle.gt_rules.specs.Legal.{Does}
use Rattle.gt_rules.specs.Panics.{fault}
use Rattle.gt_machine.specs.Machine.{state_of}
use Rattle.gt_schedule.specs.declared.status.RunStatus.{RunStatus}
use Rattle.gt_schedule.specs.Schedule.{Schedule, plainly, status_of}
use Rattle.gt_book.specs.declared.book.Book.TheInside.{Inside}
use Rattle.gt_book.specs.declared.step.Step.{Step}
use Rattle.gt_book.specs.Steps.{step_of, step_or_panic, step_of_instr, goes_by}
use Rattle.gt_book.specs.View.{BookView, outcome_of}
use Rattle.gt_book.specs.Book.{seen, IsKept}
use Rattle.gt_book.specs.Run.{CanEnter}
use Rattle.gt_book.proofs.Firm.{calm-standing}
use Rattle.gt_book.proofs.Meeting.{plain-is, recv-is, send-is, choice-is, with-is, cancel-is}
use Rattle.gt_book.proofs.Going.{IsStep, step-is, in_hand-goes}
use Rattle.gt_book.proofs.Runs.{can_enter-seen}

-- the step is of its instruction
instr-broadcasts : (script : Script) (s : State) (m : Schedule) (g k : ℕ) (i : Instr) → step_of_instr script s m g i ≡ Step.Broadcasts k → i ≡ Instr.Broadcast k
instr-broadcasts script s m g k (Instr.Broadcast j) h = cc
instr-broadcasts script s m g k (Instr.Sleep d) h = sleeps d h
  where
    sleeps : (d : ℕ) → step_of_instr script s m g (Instr.Sleep d) ≡ Step.Broadcasts k → Instr.Sleep d ≡ Instr.Broadcast k
    sleeps zero h = cc
    sleeps (suc d) h = cc
instr-broadcasts script s m g k (Instr.Recv o) h = absurd (recv-is (λ step. step ≡ Step.Broadcasts k → ⊥) (λ e q. cc) (λ kind q. cc) (λ t q. cc) script s m g o h)
instr-broadcasts script s m g k (Instr.Send c v) h = absurd (send-is (λ step. step ≡ Step.Broadcasts k → ⊥) (λ e q. cc) (λ kind q. cc) script s m g c v h)
instr-broadcasts script s m g k (Instr.Select cases default_to) h =
    absurd (choice-is (λ step. step ≡ Step.Broadcasts k → ⊥) (λ e q. cc) (λ t q. cc) (λ timed q. cc) script s m g cases default_to h)
instr-broadcasts script s m g k (Instr.Lock o) h =
    absurd (plain-is (λ step. step ≡ Step.Broadcasts k → ⊥) (λ e q. cc) (λ kind q. cc) (CaseKind.Recv o) (goes_by script s m (plainly g) (CaseKind.Recv o)) h)
instr-broadcasts script s m g k (Instr.Wait w) h =
    absurd (plain-is (λ step. step ≡ Step.Broadcasts k → ⊥) (λ e q. cc) (λ kind q. cc) (CaseKind.Recv w) (goes_by script s m (plainly g) (CaseKind.Recv w)) h)
instr-broadcasts script s m g k (Instr.With x) h = absurd (with-is (λ step. step ≡ Step.Broadcasts k → ⊥) (λ e q. cc) (λ x due q. cc) script s m g x h)
instr-broadcasts script s m g k (Instr.Cancel x cause) h = absurd (cancel-is (λ step. step ≡ Step.Broadcasts k → ⊥) (λ e q. cc) (λ x q. cc) script s m g x cause h)
instr-broadcasts script s m g k _ h = cc

-- who makes it stands at it, without a misuse
pub broadcasts-does : (script : Script) (s : State) (m : Schedule) (g k : ℕ) → step_of script s m g ≡ Some (Step.Broadcasts k)
    → Does script s g (Instr.Broadcast k)
broadcasts-does script s m g k h =
    let step : IsStep script s m g (Step.Broadcasts k) = step-is script s m g (Step.Broadcasts k) h in
    elim (fault script s step.instr) as (λ o. fault script s step.instr ≡ o → step_or_panic script s m g step.instr o ≡ Step.Broadcasts k → Does script s g (Instr.Broadcast k)) [
      | None ↦ λ q l.
          subst (Does script s g) (instr-broadcasts script s m g k step.instr l)
          (record { stands = step.stands; calm = calm-standing script s g step.instr step.stands q })
      | Some reason ↦ λ q l. cc
    ] refl step.is

-- its entry may come
pub can-broadcast : (b : Inside) (v : BookView) (g k : ℕ) → seen b ≡ v → IsKept b → outcome_of v ≡ None → status_of v.schedule g ≡ Some RunStatus.InHand
    → step_of v.script v.state v.schedule g ≡ Some (Step.Broadcasts k)
    → CanEnter b.script b.limits b.run (Entry.Broadcast g k (suspended_count (state_of b.run.machine) k))
can-broadcast b v g k is kept running in_hand step =
    let count : suspended_count (state_of b.run.machine) k ≡ suspended_count v.state k = ap (λ (v : BookView). suspended_count v.state k) is in
    can_enter-seen b v (Entry.Broadcast g k (suspended_count (state_of b.run.machine) k)) is kept running
    (broadcasts-does v.script v.state v.schedule g k step, count) (in_hand-goes (status_of v.schedule g) in_hand, tt)

-- who makes it is in hand
pub hand-seen : (b : Inside) (v : BookView) (g : ℕ) → seen b ≡ v → status_of v.schedule g ≡ Some RunStatus.InHand
    → status_of (seen b).schedule g ≡ Some RunStatus.InHand
hand-seen b v g is in_hand = subst (λ (v : BookView). status_of v.schedule g ≡ Some RunStatus.InHand) (sym is) in_hand
