-- The operations of a context with a deadline: it is made, and it comes to its deadline.
use Rattle.std.proofs.Common.{◌≡◌, ℕ, zero, suc, ◌≤◌, cond, refl, sym, ap, subst, ◌∙◌, Option, None, Some, Bool, true, false, is_some, is_none, IsTrue, IsSomeAnd}
use Rattle.std.proofs.lemmas.Bool.{le-leb}
use Rattle.gt_model.specs.declared.script.Script.{Script}
use Rattle.gt_model.specs.declared.script.Instr.{Instr}
use Rattle.gt_model.specs.declared.script.CaseKind.{CaseKind}
use Rattle.gt_model.specs.declared.entry.Entry.{Entry}
use Rattle.gt_model.specs.declared.context.Context.{Context}
use Rattle.gt_model.specs.declared.context.End.{End}
use Rattle.gt_rules.specs.State.{State, clock, context_at, world_of}
use Rattle.gt_rules.specs.Contexts.{made_context}
use Rattle.gt_rules.specs.Legal.{Does}
use Rattle.gt_rules.specs.Ready.{is_due}
use Rattle.gt_schedule.specs.declared.status.RunStatus.{RunStatus}
use Rattle.gt_schedule.specs.Schedule.{Schedule, plainly, status_of}
use Rattle.gt_book.specs.declared.answers.Op.{Op}
use Rattle.gt_book.specs.declared.answers.TimerOp.{TimerOp}
use Rattle.gt_book.specs.declared.step.Step.{Step}
use Rattle.gt_book.specs.Steps.{MayCommit, is_gone, step_of, step_of_instr, goes_by, makes_context, live_deadline}
use Rattle.gt_book.specs.View.{BookView, IsLawful, outcome_of}
use Rattle.gt_book.proofs.Going.{in_hand-goes}
use Rattle.gt_book.proofs.Meeting.{plain-is, recv-is, send-is, choice-is, cancel-is}
use Rattle.gt_book.proofs.Committing.{Asks, needs-asks, not_gone}

-- ---- a context comes to its deadline

-- one that has its own deadline, and has not ended
live-parts : (r : Context) (due : ℕ) → live_deadline r ≡ Some due → (is_none r.end ≡ true) × (r.own ≡ Some due)
live-parts r due h = by (is_none r.end) refl h
  where
    by : (b : Bool) → is_none r.end ≡ b → cond b r.own None ≡ Some due → (is_none r.end ≡ true) × (r.own ≡ Some due)
    by true e k = (e, k)
    by false e k = cc

pub may-expire : (b : BookView) (x due : ℕ) → IsLawful b → outcome_of b ≡ None
    → (elim (context_at b.state x) as (λ o. Option ℕ) [ None ↦ None | Some r ↦ live_deadline r ]) ≡ Some due → due ≤ clock b.state 0 → MayCommit b (Op.Expire x)
may-expire b x due lawful running own come = ((expires (context_at b.state x) refl own, refl), (tt, tt), tt)
  where
    expires : (o : Option Context) → context_at b.state x ≡ o → (elim o as (λ o. Option ℕ) [ None ↦ None | Some r ↦ live_deadline r ]) ≡ Some due
        → IsSomeAnd o (λ (r : Context). IsTrue (is_due r.own (clock b.state r.world)) × IsTrue (is_none r.end))
    expires None e h = cc
    expires (Some r) e h =
        let parts = live-parts r due h in
        let world : r.world ≡ 0 = lawful.formed.world.contexts x r e in (
          subst (λ (w : ℕ). IsTrue (is_due r.own (clock b.state w))) (sym world)
              (subst (λ (o : Option ℕ). IsTrue (is_due o (clock b.state 0))) (sym parts.1) (le-leb due (clock b.state 0) come)),
          parts.0,
        )

-- ---- a context is made

-- an instruction that needs the record of a deadline
record Derives (script : Script) (s : State) (g x due : ℕ) (i : Instr) : Type 0 where
  is : i ≡ Instr.With x
  live : live_deadline (made_context script s (world_of s g) x) ≡ Some due

derives-made : (script : Script) (s : State) (m : Schedule) (g y x due : ℕ) → makes_context g y (made_context script s (world_of s g) y) ≡ Step.Needs (TimerOp.Deadline x due)
    → Derives script s g x due (Instr.With y)
derives-made script s m g y x due h = by (live_deadline (made_context script s (world_of s g) y)) refl h
  where
    by : (o : Option ℕ) → live_deadline (made_context script s (world_of s g) y) ≡ o
        → (elim o as (λ o. Step) [
          | None ↦ Step.Makes (Entry.CtxMake g y (is_some (made_context script s (world_of s g) y).end))
          | Some due ↦ Step.Needs (TimerOp.Deadline y due)
        ]) ≡ Step.Needs (TimerOp.Deadline x due) → Derives script s g x due (Instr.With y)
    by None e k = cc
    by (Some at) e k =
        let same : y ≡ x = cc in
        let time : at ≡ due = cc in
        record { is = ap Instr.With same; live = subst (λ y. live_deadline (made_context script s (world_of s g) y) ≡ Some due) same (e ∙ ap Some time) }

instr-derives : (script : Script) (s : State) (m : Schedule) (g x due : ℕ) (i : Instr) → step_of_instr script s m g i ≡ Step.Needs (TimerOp.Deadline x due) → Derives script s g x due i
instr-derives script s m g x due (Instr.With y) h = derives-made script s m g y x due h
instr-derives script s m g x due (Instr.Cancel y cause) h = absurd (cancel-is (λ step. step ≡ Step.Needs (TimerOp.Deadline x due) → ⊥) (λ e q. cc) (λ y q. cc) script s m g y cause h)
instr-derives script s m g x due (Instr.Sleep zero) h = cc
instr-derives script s m g x due (Instr.Sleep (suc d)) h = cc
instr-derives script s m g x due (Instr.Recv o) h = absurd (recv-is (λ step. step ≡ Step.Needs (TimerOp.Deadline x due) → ⊥) (λ e q. cc) (λ kind q. cc) (λ t q. cc) script s m g o h)
instr-derives script s m g x due (Instr.Send c v) h = absurd (send-is (λ step. step ≡ Step.Needs (TimerOp.Deadline x due) → ⊥) (λ e q. cc) (λ kind q. cc) script s m g c v h)
instr-derives script s m g x due (Instr.Select cases default_to) h =
    absurd (choice-is (λ step. step ≡ Step.Needs (TimerOp.Deadline x due) → ⊥) (λ e q. cc) (λ t q. cc) (λ timed q. cc) script s m g cases default_to h)
instr-derives script s m g x due (Instr.Lock k) h =
    absurd (plain-is (λ step. step ≡ Step.Needs (TimerOp.Deadline x due) → ⊥) (λ e q. cc) (λ kind q. cc) (CaseKind.Recv k) (goes_by script s m (plainly g) (CaseKind.Recv k)) h)
instr-derives script s m g x due (Instr.Wait w) h =
    absurd (plain-is (λ step. step ≡ Step.Needs (TimerOp.Deadline x due) → ⊥) (λ e q. cc) (λ kind q. cc) (CaseKind.Recv w) (goes_by script s m (plainly g) (CaseKind.Recv w)) h)
instr-derives script s m g x due _ h = cc

-- what is given to the commitment
pub record MayDerive (b : BookView) (g x due : ℕ) : Type 0 where
  pub live : live_deadline (made_context b.script b.state (world_of b.state g) x) ≡ Some due
  pub ended : is_some (made_context b.script b.state (world_of b.state g) x).end ≡ false
  pub may : MayCommit b (Op.Derive g x)
  pub in_time : is_gone b (Op.Derive g x) ≡ false

none-end : (o : Option End) → is_none o ≡ true → is_some o ≡ false
none-end None h = refl
none-end (Some end) h = cc

pub may-derive : (b : BookView) (g x due : ℕ) → IsLawful b → outcome_of b ≡ None → step_of b.script b.state b.schedule g ≡ Some (Step.Needs (TimerOp.Deadline x due))
    → status_of b.schedule g ≡ Some RunStatus.InHand → MayDerive b g x due
may-derive b g x due lawful running step in_hand =
    let asks : Asks b.script b.state b.schedule g (TimerOp.Deadline x due) = needs-asks b.script b.state b.schedule g (TimerOp.Deadline x due) step in
    let derives : Derives b.script b.state g x due asks.instr = instr-derives b.script b.state b.schedule g x due asks.instr asks.is in
    let does : Does b.script b.state g (Instr.With x) = subst (Does b.script b.state g) derives.is asks.does in
    let parts = live-parts (made_context b.script b.state (world_of b.state g) x) due derives.live in
    record {
      live = derives.live;
      ended = none-end (made_context b.script b.state (world_of b.state g) x).end parts.0;
      may = ((does, refl), (in_hand-goes (status_of b.schedule g) in_hand, tt), tt);
      in_time = not_gone b (Op.Derive g x) running refl;
    }
