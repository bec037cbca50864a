-- What an operation needs that is committed while the run goes on.
use Rattle.std.proofs.lemmas.Bool.{le-leb, eq-eqb}
use Rattle.std.specs.List.{list_any}
use Rattle.std.proofs.Common.{◌≡◌, IsSomeAnd, ℕ, zero, suc, ◌+◌, ◌<◌, ◌≤◌, min, length, refl, sym, ap, subst, ◌∙◌, slice_get, Option, None, Some, Bool, true, false, not, ◌&&◌, ◌||◌, IsTrue, is_some, List, [], ◌∷◌, cond, arith, option_map}
use Rattle.gt_model.specs.Times.{greatest_time}
use Rattle.gt_model.specs.declared.script.Script.{Script}
use Rattle.gt_model.specs.declared.script.Instr.{Instr}
use Rattle.gt_model.specs.declared.script.Case.{Case}
use Rattle.gt_model.specs.declared.entry.Outcome.{Outcome}
use Rattle.gt_rules.specs.State.{State, timer_at, stands_at, clock, clock_of, due_of, sleeps_until}
use Rattle.gt_model.specs.Script.{is_timer, is_ticker, is_func, is_chan, is_endable, is_ctx}
use Rattle.gt_model.specs.Good.{gives_values, IsGood}
use Rattle.gt_book.proofs.Wanting.{receives-kind, wants-receives}
use Rattle.gt_model.specs.declared.state.Timer.{Timer}
use Rattle.gt_rules.specs.Ready.{is_due}
use Rattle.gt_model.specs.declared.script.CaseKind.{CaseKind}
use Rattle.gt_rules.specs.Operations.{operation, offers, receives_from}
use Rattle.gt_rules.specs.Panics.{fault, zero_ticker}
use Rattle.gt_rules.specs.After.{duration_of, new_period, period_of}
use Rattle.gt_rules.specs.Change.{change_of}
use Rattle.gt_rules.specs.Legal.{May, Does, Operates, LeavesDue, operation_at, due_at, was_set, sleep_end}
use Rattle.gt_model.specs.declared.entry.Party.{Party}
use Rattle.gt_schedule.specs.declared.status.RunStatus.{RunStatus}
use Rattle.gt_book.specs.declared.step.Step.{Step}
use Rattle.gt_book.specs.declared.answers.Op.{Op}
use Rattle.gt_book.specs.declared.answers.TimerOp.{TimerOp}
use Rattle.gt_schedule.specs.Schedule.{Schedule, plainly, Served, status_of, is_in_hand, is_parked, parties_at}
use Rattle.gt_book.specs.Steps.{come_timer, goes_by, step_of, step_or_panic, step_of_instr, set_instr, set_entry, is_receiving, is_late, is_gone, MayCommit, entry_of, MayEnter}
use Rattle.gt_book.specs.View.{BookView, IsLawful, outcome_of, is_at, wants, is_parked_at, first_case, case_of, receiver_of}
use Rattle.gt_facts.specs.Formed.{IsPeriod}
use Rattle.gt_facts.proofs.Periods.{no-zero}
use Rattle.gt_facts.proofs.Within.{timer_within}
use Rattle.gt_facts.proofs.Makers.{neither, calm-fault}
use Rattle.gt_facts.proofs.Lookups.{Asleep, sleeper, offers-operation, names-Does}
use Rattle.gt_facts.proofs.Formed.{world_of-zero}
use Rattle.gt_book.proofs.Firm.{calm-standing}
use Rattle.gt_book.proofs.Fitting.{first-waiting, asleep-parked}
use Rattle.gt_book.proofs.Meeting.{at-receives, parked-operates, plain-is, recv-is, send-is, choice-is, with-is, cancel-is}
use Rattle.gt_book.proofs.Going.{IsStep, step-is, in_hand-goes, parked-goes}
use Rattle.gt_book.proofs.Setting.{instr-set}
use Rattle.gt_book.proofs.Options.{ChoiceIs, case_goes, case_polls, all_rest, all_wait, choice-so}
use Rattle.gt_machine.specs.Machine.{is_cut}

-- an operation that is not late for its goroutine is not gone while the run goes on
pub not_gone : (b : BookView) (op : Op) → outcome_of b ≡ None → is_late b op ≡ false → is_gone b op ≡ false
not_gone b op running on_time = ap (λ (o : Option Outcome). is_some o || is_late b op) running ∙ on_time

-- everybody has the program's clock
one_clock : (b : BookView) (g : ℕ) → IsLawful b → clock_of b.state g ≡ clock b.state 0
one_clock b g lawful = ap (clock b.state) (world_of-zero b.script b.state g lawful.formed)

-- ---- what time brings

left-true : (a b : Bool) → (a && b) ≡ true → a ≡ true
left-true true b h = refl
left-true false b h = cc

right-true : (a b : Bool) → (a && b) ≡ true → b ≡ true
right-true true b h = h
right-true false b h = cc

timer-gives : (script : Script) (t : ℕ) → IsTrue (is_timer script t) → IsTrue (gives_values script t)
timer-gives script t timer = ap (λ b. b || is_chan script t || is_endable script t) timer

-- who is parked at a receive from a timer may receive its tick that has come
pub may-receive : (b : BookView) (t at : ℕ) (next : Option ℕ) (p : Party) → IsLawful b → outcome_of b ≡ None → IsTrue (is_timer b.script t)
    → due_of b.state t ≡ Some at → at ≤ clock b.state 0 → LeavesDue b.script b.state (clock b.state 0) t at next
    → is_parked_at b.script b.state b.schedule p (receives_from t) ≡ true
    → MayCommit b (Op.TRecv p t at next) × (is_gone b (Op.TRecv p t at next) ≡ false)
may-receive b t at next p lawful running timer set due leaves parked =
    let waits : is_parked (status_of b.schedule p.g) ≡ true = left-true (is_parked (status_of b.schedule p.g)) (wants b.script b.state p (receives_from t)) parked in
    let there : is_at b.script b.state p (receives_from t) ≡ true =
    wants-receives b.script b.state p t lawful.good lawful.formed (timer-gives b.script t timer)
    (right-true (is_parked (status_of b.schedule p.g)) (wants b.script b.state p (receives_from t)) parked) in
    let stands : operation_at b.script b.state p ≡ Some (CaseKind.Recv t) = at-receives b.script b.state p t there in
    let goes : IsTrue (is_in_hand (status_of b.schedule p.g) || is_parked (status_of b.schedule p.g)) = parked-goes (status_of b.schedule p.g) waits in
    let receiving : is_receiving b.script b.state b.schedule p t ≡ true = rw (goes, there) refl in
    let receives : Operates b.script b.state p (CaseKind.Recv t) = parked-operates b.script b.state b.schedule p (CaseKind.Recv t) (lawful.calm running) waits stands in
    let now : clock b.state 0 ≡ clock_of b.state p.g = sym (one_clock b p.g lawful) in
    let come : at ≤ clock_of b.state p.g = subst (λ now. at ≤ now) now due in
    let left : LeavesDue b.script b.state (clock_of b.state p.g) t at next = subst (λ now. LeavesDue b.script b.state now t at next) now leaves in
    (((receives, timer, set, come, left), (goes, tt), tt), not_gone b (Op.TRecv p t at next) running (ap not receiving))

-- who waits longest at a timer is parked there
pub parked-first : (b : BookView) (t : ℕ) (p : Party) → IsLawful b → IsTrue (is_timer b.script t) → slice_get (parties_at b.schedule.receivers t) 0 ≡ Some p
    → is_parked_at b.script b.state b.schedule p (receives_from t) ≡ true
parked-first b t p lawful timer first =
    let below : t < length b.state.timers = timer_within b.script b.state t lawful.formed timer in
    let declared : t < length b.script.decls = subst (λ (n : ℕ). t < n) lawful.formed.timers below in
    first-waiting b.script b.state b.schedule p t lawful.fits declared first

-- an AfterFunc timer whose time has come may start its function
pub may-fire : (b : BookView) (t at : ℕ) → IsLawful b → outcome_of b ≡ None → IsTrue (is_func b.script t) → due_of b.state t ≡ Some at → at ≤ clock b.state 0
    → MayCommit b (Op.Fire t) × (is_gone b (Op.Fire t) ≡ false)
may-fire b t at lawful running func set due =
    let made : IsSomeAnd (timer_at b.state t) (λ (r : Timer). IsTrue (is_due r.due (clock b.state r.world))) = due-made (timer_at b.state t) refl set in
    (((func, made, refl), (tt, tt), tt), not_gone b (Op.Fire t) running refl)
  where
    due-made : (o : Option Timer) → timer_at b.state t ≡ o → (elim o as (λ o. Option ℕ) [ None ↦ None | Some r ↦ r.due ]) ≡ Some at
        → IsSomeAnd o (λ (r : Timer). IsTrue (is_due r.due (clock b.state r.world)))
    due-made None e h = cc
    due-made (Some r) e h =
        let world : r.world ≡ 0 = lawful.formed.world.timers t r e in
        subst (λ (w : ℕ). IsTrue (is_due r.due (clock b.state w))) (sym world)
        (subst (λ (o : Option ℕ). IsTrue (is_due o (clock b.state 0))) (sym h) (le-leb at (clock b.state 0) due))

-- who sleeps is parked, and wakes when its time has come
pub may-wake : (b : BookView) (g at : ℕ) → IsLawful b → outcome_of b ≡ None → sleeps_until b.state g ≡ Some at → at ≤ clock b.state 0
    → MayCommit b (Op.Wake g) × (is_gone b (Op.Wake g) ≡ false)
may-wake b g at lawful running time due =
    let come : at ≤ clock_of b.state g = subst (λ now. at ≤ now) (sym (one_clock b g lawful)) due in
    let may : IsSomeAnd (sleeps_until b.state g) (λ until. until ≤ clock_of b.state g) = subst (λ o. IsSomeAnd o (λ until. until ≤ clock_of b.state g)) (sym time) come in
    let a : Asleep b.state g = sleeper b.state g (λ until. until ≤ clock_of b.state g) may in
    ((may, (parked-goes (status_of b.schedule g) (asleep-parked b.script b.state b.schedule g lawful.fits a), tt), tt), not_gone b (Op.Wake g) running (ap (λ o. not (is_some o)) time))

-- ---- what a goroutine asks for

-- the instruction without a panic of a step that asks for a timer operation
pub record Asks (script : Script) (s : State) (m : Schedule) (g : ℕ) (op : TimerOp) : Type 0 where
  pub instr : Instr
  pub does : Does script s g instr
  pub is : step_of_instr script s m g instr ≡ Step.Needs op

pub needs-asks : (script : Script) (s : State) (m : Schedule) (g : ℕ) (op : TimerOp) → step_of script s m g ≡ Some (Step.Needs op) → Asks script s m g op
needs-asks script s m g op h =
    let step : IsStep script s m g (Step.Needs op) = step-is script s m g (Step.Needs op) h in
    elim (fault script s step.instr) as (λ o. fault script s step.instr ≡ o → step_or_panic script s m g step.instr o ≡ Step.Needs op → Asks script s m g op) [
      | None ↦ λ q k. record {
        instr = step.instr;
        does = record { stands = step.stands; calm = calm-standing script s g step.instr step.stands q };
        is = k;
      }
      | Some reason ↦ λ q k. cc
    ] refl step.is

-- a sleep of some time
record Sleeps (d : ℕ) (i : Instr) : Type 0 where
  is : i ≡ Instr.Sleep d
  ends : (now : ℕ) → sleep_end now d ≡ Some (due_at now d)

instr-sleeps : (script : Script) (s : State) (m : Schedule) (g d : ℕ) (i : Instr) → step_of_instr script s m g i ≡ Step.Needs (TimerOp.Sleep d) → Sleeps d i
instr-sleeps script s m g d (Instr.Sleep zero) h = cc
instr-sleeps script s m g d (Instr.Recv o) h = absurd (recv-is (λ step. step ≡ Step.Needs (TimerOp.Sleep d) → ⊥) (λ e q. cc) (λ kind q. cc) (λ t q. cc) script s m g o h)
instr-sleeps script s m g d (Instr.Send c v) h = absurd (send-is (λ step. step ≡ Step.Needs (TimerOp.Sleep d) → ⊥) (λ e q. cc) (λ kind q. cc) script s m g c v h)
instr-sleeps script s m g d (Instr.Select cases default_to) h =
    absurd (choice-is (λ step. step ≡ Step.Needs (TimerOp.Sleep d) → ⊥) (λ e q. cc) (λ t q. cc) (λ timed q. cc) script s m g cases default_to h)
instr-sleeps script s m g d (Instr.Sleep (suc e)) h =
    let same : suc e ≡ d = cc in
    record { is = ap Instr.Sleep same; ends = λ now. subst (λ d. sleep_end now d ≡ Some (due_at now d)) same refl }
instr-sleeps script s m g d (Instr.Lock k) h = absurd (plain-is (λ step. step ≡ Step.Needs (TimerOp.Sleep d) → ⊥) (λ e q. cc) (λ kind q. cc) (CaseKind.Recv k) (goes_by script s m (plainly g) (CaseKind.Recv k)) h)
instr-sleeps script s m g d (Instr.Wait w) h = absurd (plain-is (λ step. step ≡ Step.Needs (TimerOp.Sleep d) → ⊥) (λ e q. cc) (λ kind q. cc) (CaseKind.Recv w) (goes_by script s m (plainly g) (CaseKind.Recv w)) h)
instr-sleeps script s m g d (Instr.With x) h = absurd (with-is (λ step. step ≡ Step.Needs (TimerOp.Sleep d) → ⊥) (λ e q. cc) (λ x due q. cc) script s m g x h)
instr-sleeps script s m g d (Instr.Cancel x cause) h = absurd (cancel-is (λ step. step ≡ Step.Needs (TimerOp.Sleep d) → ⊥) (λ e q. cc) (λ x q. cc) script s m g x cause h)
instr-sleeps script s m g d _ h = cc

pub may-sleep : (b : BookView) (g d until : ℕ) → IsLawful b → outcome_of b ≡ None → step_of b.script b.state b.schedule g ≡ Some (Step.Needs (TimerOp.Sleep d))
    → status_of b.schedule g ≡ Some RunStatus.InHand → until ≡ min (clock b.state 0 + d) greatest_time
    → MayCommit b (Op.Sleep g until) × (is_gone b (Op.Sleep g until) ≡ false)
may-sleep b g d until lawful running step in_hand e =
    let asks : Asks b.script b.state b.schedule g (TimerOp.Sleep d) = needs-asks b.script b.state b.schedule g (TimerOp.Sleep d) step in
    let sleeps : Sleeps d asks.instr = instr-sleeps b.script b.state b.schedule g d asks.instr asks.is in
    let does : Does b.script b.state g (Instr.Sleep d) = subst (Does b.script b.state g) sleeps.is asks.does in
    let is : until ≡ due_at (clock_of b.state g) d = e ∙ ap (λ now. due_at now d) (sym (one_clock b g lawful)) in
    (((d, does, ap Some is ∙ sym (sleeps.ends (clock_of b.state g))), (in_hand, tt), tt), not_gone b (Op.Sleep g until) running refl)

-- the entry of a setting may come
set-may : (script : Script) (s : State) (g t d due : ℕ) (anew : Bool) (was : Option Bool) → Does script s g (set_instr t d anew) → was ≡ was_set script s t
    → due ≡ due_at (clock_of s g) d → May script s (set_entry g t anew was due)
set-may script s g t d due true was does answers is = (d, does, answers, is)
set-may script s g t d due false was does answers is = (d, does, is)

set-served : (m : Schedule) (g t due : ℕ) (anew : Bool) (was : Option Bool) → status_of m g ≡ Some RunStatus.InHand → Served m (set_entry g t anew was due)
set-served m g t due true was in_hand = (in_hand-goes (status_of m g) in_hand, tt)
set-served m g t due false was in_hand = (in_hand-goes (status_of m g) in_hand, tt)

pub may-set : (b : BookView) (g t d due period : ℕ) (anew : Bool) (was : Option Bool) → IsLawful b → outcome_of b ≡ None
    → step_of b.script b.state b.schedule g ≡ Some (Step.Needs (TimerOp.Set t d anew)) → status_of b.schedule g ≡ Some RunStatus.InHand
    → was ≡ was_set b.script b.state t → due ≡ min (clock b.state 0 + d) greatest_time → period ≡ new_period b.script b.state g t
    → MayCommit b (Op.Set g t anew was due period) × (is_gone b (Op.Set g t anew was due period) ≡ false)
may-set b g t d due period anew was lawful running step in_hand answers e periodic =
    let asks : Asks b.script b.state b.schedule g (TimerOp.Set t d anew) = needs-asks b.script b.state b.schedule g (TimerOp.Set t d anew) step in
    let does : Does b.script b.state g (set_instr t d anew) = subst (Does b.script b.state g) (instr-set b.script b.state b.schedule g t d anew asks.instr asks.is) asks.does in
    let is : due ≡ due_at (clock_of b.state g) d = e ∙ ap (λ now. due_at now d) (sym (one_clock b g lawful)) in (
      (set-may b.script b.state g t d due anew was does answers is, set-served b.schedule g t due anew was in_hand, periodic),
      not_gone b (Op.Set g t anew was due period) running refl,
    )

-- the period of a setting that is asked for: a ticker's is its duration, and above 0
pub set-period : (b : BookView) (g t d : ℕ) (anew : Bool) → step_of b.script b.state b.schedule g ≡ Some (Step.Needs (TimerOp.Set t d anew))
    → new_period b.script b.state g t ≡ period_of b.script t d
set-period b g t d anew step =
    let asks : Asks b.script b.state b.schedule g (TimerOp.Set t d anew) = needs-asks b.script b.state b.schedule g (TimerOp.Set t d anew) step in
    let stands : stands_at b.script b.state g ≡ Some (set_instr t d anew) =
    asks.does.stands ∙ ap Some (instr-set b.script b.state b.schedule g t d anew asks.instr asks.is) in
    ap (λ (o : Option Instr). period_of b.script t (duration_of o)) stands ∙ ap (period_of b.script t) (set-duration t d anew)
  where
    set-duration : (t d : ℕ) (anew : Bool) → duration_of (Some (set_instr t d anew)) ≡ d
    set-duration t d true = refl
    set-duration t d false = refl

pub set-ticks : (b : BookView) (g t d : ℕ) (anew : Bool) → step_of b.script b.state b.schedule g ≡ Some (Step.Needs (TimerOp.Set t d anew))
    → IsPeriod (is_ticker b.script t) (period_of b.script t d)
set-ticks b g t d anew step =
    let asks : Asks b.script b.state b.schedule g (TimerOp.Set t d anew) = needs-asks b.script b.state b.schedule g (TimerOp.Set t d anew) step in
    let does : Does b.script b.state g (set_instr t d anew) = subst (Does b.script b.state g) (instr-set b.script b.state b.schedule g t d anew asks.instr asks.is) asks.does in
    no-zero (is_ticker b.script t) d (set-calm b.script b.state g t d anew does)
  where
    set-calm : (script : Script) (s : State) (g t d : ℕ) (anew : Bool) → Does script s g (set_instr t d anew) → zero_ticker script t d ≡ None
    set-calm script s g t d true does = (neither _ (zero_ticker script t d) (calm-fault script s g (Instr.Reset t d) does)).1
    set-calm script s g t d false does = (neither _ (zero_ticker script t d) (calm-fault script s g (Instr.New t d) does)).1

-- ---- a choice with a default polls a timer

-- the first case that passes a test, where the first one has the number n
record IsFirst (test : CaseKind → Bool) (n : ℕ) (cases : List Case) : Type 0 where
  place : ℕ
  item : Case
  number : first_case test n cases ≡ n + place
  there : slice_get cases place ≡ Some item
  passes : test item.kind ≡ true

first-is : (test : CaseKind → Bool) (n : ℕ) (cases : List Case) → list_any (λ (c : Case). test c.kind) cases ≡ true → IsFirst test n cases
first-is test n [] h = cc
first-is test n (c ∷ cases) h =
    elim (test c.kind) as (λ b. test c.kind ≡ b → (b || list_any (λ (c : Case). test c.kind) cases) ≡ true → IsFirst test n (c ∷ cases)) [
      | true ↦ λ e k.
          let here : n ≡ n + 0 = omega arith in
          record { place = 0; item = c; number = ap (λ b. cond b n (first_case test (n + 1) cases)) e ∙ here; there = refl; passes = e }
      | false ↦ λ e k.
          let rest : IsFirst test (n + 1) cases = first-is test (n + 1) cases k in
          let next : (n + 1) + rest.place ≡ n + suc rest.place = omega arith in
          record {
            place = suc rest.place;
            item = rest.item;
            number = ap (λ b. cond b n (first_case test (n + 1) cases)) e ∙ (rest.number ∙ next);
            there = rest.there;
            passes = rest.passes;
          }
    ] refl h

receives-there : (t : ℕ) (i : Instr) → offers (receives_from t) i ≡ true → operation i (case_of (receives_from t) (Some i)) ≡ Some (CaseKind.Recv t)
receives-there t (Instr.Recv o) h = ap Some (receives-kind (CaseKind.Recv o) t h)
receives-there t (Instr.Send c v) h = cc
receives-there t (Instr.Select cases default_to) h =
    let first : IsFirst (receives_from t) 1 cases = first-is (receives_from t) 1 cases h in
    let number : 1 + first.place ≡ suc first.place = omega arith in
    ap (operation (Instr.Select cases default_to)) (first.number ∙ number)
    ∙ (ap (option_map (λ (c : Case). c.kind)) first.there ∙ ap Some (receives-kind first.item.kind t first.passes))
receives-there t (Instr.Lock m) h = ap Some (receives-kind (CaseKind.Recv m) t h)
receives-there t (Instr.Wait w) h = ap Some (receives-kind (CaseKind.Recv w) t h)
receives-there t i h = cc

-- the party that receives from an object stands at that receive
pub receiver-at : (script : Script) (s : State) (g t : ℕ) (i : Instr) → stands_at script s g ≡ Some i → offers (receives_from t) i ≡ true
    → operation_at script s (receiver_of script s g t) ≡ Some (CaseKind.Recv t)
receiver-at script s g t i e h =
    ap (λ (o : Option Instr). elim o as (λ x. Option CaseKind) [ None ↦ None | Some i ↦ operation i (case_of (receives_from t) o) ]) e ∙ receives-there t i h

come-from : (script : Script) (s : State) (now t : ℕ) (kind : CaseKind) → come_timer script s now kind ≡ Some t → kind ≡ CaseKind.Recv t
come-from script s now t (CaseKind.Recv o) h =
    elim (is_timer script o && is_due (due_of s o) now) as (λ b. cond b (Some o) None ≡ Some t → CaseKind.Recv o ≡ CaseKind.Recv t) [
      | true ↦ λ k. cc
      | false ↦ λ k. cc
    ] h
come-from script s now t (CaseKind.Send c v) h = cc

choice-polls : (script : Script) (s : State) (m : Schedule) (g t : ℕ) (cases : List Case) (default_to : Option ℕ) (step : Step) → ChoiceIs script s m g cases default_to step
    → step ≡ Step.Needs (TimerOp.Poll t) → offers (receives_from t) (Instr.Select cases default_to) ≡ true
choice-polls script s m g t cases default_to step (case_goes n kind e has by) h = cc
choice-polls script s m g t cases default_to step (case_polls n kind u has come) h =
    let same : u ≡ t = cc in
    let is : kind ≡ CaseKind.Recv t = come-from script s (clock_of s g) t kind (come ∙ ap Some same) in
    offers-operation (receives_from t) (Instr.Select cases default_to) n kind has (subst (λ kind. receives_from t kind ≡ true) (sym is) (eq-eqb t t refl))
choice-polls script s m g t cases default_to step (all_rest to is none) h = cc
choice-polls script s m g t cases default_to step (all_wait is none) h = cc

instr-polls : (script : Script) (s : State) (m : Schedule) (g t : ℕ) (i : Instr) → step_of_instr script s m g i ≡ Step.Needs (TimerOp.Poll t) → offers (receives_from t) i ≡ true
instr-polls script s m g t (Instr.Select cases default_to) h = choice-polls script s m g t cases default_to _ (choice-so script s m g cases default_to) h
instr-polls script s m g t (Instr.Sleep zero) h = cc
instr-polls script s m g t (Instr.Sleep (suc d)) h = cc
instr-polls script s m g t (Instr.Recv o) h = absurd (recv-is (λ step. step ≡ Step.Needs (TimerOp.Poll t) → ⊥) (λ e q. cc) (λ kind q. cc) (λ t q. cc) script s m g o h)
instr-polls script s m g t (Instr.Send c v) h = absurd (send-is (λ step. step ≡ Step.Needs (TimerOp.Poll t) → ⊥) (λ e q. cc) (λ kind q. cc) script s m g c v h)
instr-polls script s m g t (Instr.Lock k) h = absurd (plain-is (λ step. step ≡ Step.Needs (TimerOp.Poll t) → ⊥) (λ e q. cc) (λ kind q. cc) (CaseKind.Recv k) (goes_by script s m (plainly g) (CaseKind.Recv k)) h)
instr-polls script s m g t (Instr.Wait w) h = absurd (plain-is (λ step. step ≡ Step.Needs (TimerOp.Poll t) → ⊥) (λ e q. cc) (λ kind q. cc) (CaseKind.Recv w) (goes_by script s m (plainly g) (CaseKind.Recv w)) h)
instr-polls script s m g t (Instr.With x) h = absurd (with-is (λ step. step ≡ Step.Needs (TimerOp.Poll t) → ⊥) (λ e q. cc) (λ x due q. cc) script s m g x h)
instr-polls script s m g t (Instr.Cancel x cause) h = absurd (cancel-is (λ step. step ≡ Step.Needs (TimerOp.Poll t) → ⊥) (λ e q. cc) (λ x q. cc) script s m g x cause h)
instr-polls script s m g t _ h = cc

-- who polls a timer may receive its tick that has come
pub may-poll : (b : BookView) (g t at : ℕ) (next : Option ℕ) → IsLawful b → outcome_of b ≡ None
    → step_of b.script b.state b.schedule g ≡ Some (Step.Needs (TimerOp.Poll t)) → status_of b.schedule g ≡ Some RunStatus.InHand
    → IsTrue (is_timer b.script t) → due_of b.state t ≡ Some at → at ≤ clock b.state 0 → LeavesDue b.script b.state (clock b.state 0) t at next
    → MayCommit b (Op.TRecv (receiver_of b.script b.state g t) t at next) × (is_gone b (Op.TRecv (receiver_of b.script b.state g t) t at next) ≡ false)
may-poll b g t at next lawful running step in_hand timer set due leaves =
    let p : Party = receiver_of b.script b.state g t in
    let asks : Asks b.script b.state b.schedule g (TimerOp.Poll t) = needs-asks b.script b.state b.schedule g (TimerOp.Poll t) step in
    let stands : operation_at b.script b.state p ≡ Some (CaseKind.Recv t) =
    receiver-at b.script b.state g t asks.instr asks.does.stands (instr-polls b.script b.state b.schedule g t asks.instr asks.is) in
    let there : is_at b.script b.state p (receives_from t) ≡ true =
    ap (λ (o : Option CaseKind). elim o as (λ o. Bool) [ None ↦ false | Some kind ↦ receives_from t kind ]) stands ∙ eq-eqb t t refl in
    let goes : IsTrue (is_in_hand (status_of b.schedule g) || is_parked (status_of b.schedule g)) = in_hand-goes (status_of b.schedule g) in_hand in
    let receiving : is_receiving b.script b.state b.schedule p t ≡ true = rw (goes, there) refl in
    let receives : Operates b.script b.state p (CaseKind.Recv t) = record { stands = stands; calm = asks.does.calm } in
    let now : clock b.state 0 ≡ clock_of b.state g = sym (one_clock b g lawful) in
    let come : at ≤ clock_of b.state g = subst (λ now. at ≤ now) now due in
    let left : LeavesDue b.script b.state (clock_of b.state g) t at next = subst (λ now. LeavesDue b.script b.state now t at next) now leaves in
    (((receives, timer, set, come, left), (goes, tt), tt), not_gone b (Op.TRecv p t at next) running (ap not receiving))

-- no operation is a broadcast
pub op-alone : (script : Script) (s : State) (op : Op) → (change_of (entry_of script s op)).broadcast ≡ None
op-alone script s (Op.Set g t true was due period) = refl
op-alone script s (Op.Set g t false was due period) = refl
op-alone script s (Op.Stop g t was) = refl
op-alone script s (Op.TRecv p t due next) = refl
op-alone script s (Op.Fire t) = refl
op-alone script s (Op.Sleep g until) = refl
op-alone script s (Op.Wake g) = refl
op-alone script s (Op.Derive g x) = refl
op-alone script s (Op.Expire x) = refl

-- and by none but an expiry a context ends
pub op-uncut : (b : BookView) (op : Op) → MayEnter b op → is_cut (change_of (entry_of b.script b.state op)).tree ≡ false
op-uncut b (Op.Set g t true was due period) may = refl
op-uncut b (Op.Set g t false was due period) may = refl
op-uncut b (Op.Stop g t was) may = refl
op-uncut b (Op.TRecv p t due next) may = refl
op-uncut b (Op.Fire t) may = refl
op-uncut b (Op.Sleep g until) may = refl
op-uncut b (Op.Wake g) may = refl
op-uncut b (Op.Derive g x) may = refl
op-uncut b (Op.Expire x) may = absurd may

-- who makes a context names one
pub derives-ctx : (b : BookView) (g x : ℕ) → IsGood b.script → MayEnter b (Op.Derive g x) → IsTrue (is_ctx b.script x)
derives-ctx b g x good may = names-Does b.script b.state g (Instr.With x) good may

-- an operation that may come, and is no expiry
pub may-enter : (b : BookView) (op : Op) → ((x : ℕ) → op ≡ Op.Expire x → ⊥) → MayCommit b op → MayEnter b op
may-enter b (Op.Set g t anew was due period) other may = tt
may-enter b (Op.Stop g t was) other may = tt
may-enter b (Op.TRecv p t due next) other may = tt
may-enter b (Op.Fire t) other may = tt
may-enter b (Op.Sleep g until) other may = tt
may-enter b (Op.Wake g) other may = tt
may-enter b (Op.Derive g x) other may = may.0.0
may-enter b (Op.Expire x) other may = absurd (other x refl)
