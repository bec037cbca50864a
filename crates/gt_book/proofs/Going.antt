-- What a goroutine in hand does may come.
use Rattle.std.proofs.Common.{◌≡◌, ◌≢◌, ℕ, ◌+◌, ◌<◌, nat_lt, cond, List, [], ◌∷◌, refl, sym, ap, subst, ◌∙◌, arith, Option, None, Some, IfSome, length, is_some, IsSome, slice_get, Bool, true, false, not, ◌&&◌, ◌||◌, IsTrue, zero, suc, MatchOption, inl, inr, option_map}
use Rattle.std.proofs.lemmas.Bool.{ltb-true, eqb-true}
use Rattle.gt_model.specs.declared.script.Script.{Script}
use Rattle.gt_model.specs.declared.script.Instr.{Instr}
use Rattle.gt_model.specs.declared.script.Place.{Place}
use Rattle.gt_model.specs.declared.script.What.{What}
use Rattle.gt_model.specs.declared.script.CaseKind.{CaseKind}
use Rattle.gt_model.specs.declared.script.Case.{Case}
use Rattle.gt_model.specs.declared.entry.Entry.{Entry}
use Rattle.gt_model.specs.declared.entry.Party.{Party}
use Rattle.gt_model.specs.declared.entry.Reason.{Reason}
use Rattle.gt_model.specs.declared.state.Goroutine.{Goroutine}
use Rattle.gt_model.specs.declared.state.Mode.{Mode}
use Rattle.gt_rules.specs.State.{State, timer_at, channel_at, stands, stands_at, clock_of, until_of, sleeps_until, items_of, item_count, is_open, is_closed, is_locked, counter_of, is_done, context_at, has_ended, world_of, end_at, hook_at, next_number}
use Rattle.gt_model.specs.Script.{instr_at, code_of, what_at, is_timer, is_chan, is_mutex, is_wg, capacity_of, names_timer, names_chan, names_mutex, names_wg, is_ctx, is_endable, names_ctx, can_end, named_form}
use Rattle.gt_model.proofs.Declared.{declared_within, endable_ctx}
use Rattle.gt_model.proofs.Items.{numbered-change_other}
use Rattle.gt_rules.specs.Panics.{fault, fault_case, when, panic_at}
use Rattle.gt_rules.specs.Legal.{May, MayPanic, Signals, ChoosesClosed, Does, Operates, operation_at, is_polling}
use Rattle.gt_model.specs.Good.{IsGood, NamesRightly}
use Rattle.gt_rules.specs.Places.{silent}
use Rattle.gt_facts.specs.Formed.{IsFormed, IsPlacedIn}
use Rattle.gt_facts.proofs.Lookups.{names-Does, names-operation, does-Operates, locks-Operates, waits-Operates}
use Rattle.gt_book.specs.declared.book.Book.TheInside.{Inside}
use Rattle.gt_schedule.specs.declared.status.RunStatus.{RunStatus}
use Rattle.gt_book.specs.declared.step.Step.{Step}
use Rattle.gt_machine.specs.Machine.{state_of, is_cut}
use Rattle.gt_schedule.specs.Schedule.{Schedule, plainly, at_case, status_of, is_in_hand, is_parked, parties_at, gone_on, moved_by, MayMove, ServedBy, Served}
use Rattle.gt_schedule.specs.Scheduler.{schedule_of}
use Rattle.gt_rules.specs.Change.{Change, change_of}
use Rattle.gt_rules.specs.declared.change.Move.{Move}
use Rattle.gt_book.specs.Steps.{step_of, step_or_panic, step_of_instr, plain_step, goes_by, goes_alone, meets, or_next, receives_alone, takes_alone, sends_alone, meets_sender, meets_receiver, partner_in, value_of, live_deadline, cancels}
use Rattle.gt_book.specs.View.{BookView, IsLawful, Fits, Agrees, is_waiting}
use Rattle.gt_book.specs.Book.{seen, IsKept}
use Rattle.gt_book.specs.Calm.{IsCalm}
use Rattle.gt_book.proofs.Calm.{CanPark}
use Rattle.gt_book.proofs.Fitting.{Known, known}
use Rattle.gt_book.proofs.Firm.{never-both, calm-standing, panic-standing, unless-true, or-false}
use Rattle.gt_book.proofs.Choosing.{sends-made}
use Rattle.gt_book.proofs.Options.{ChoiceIs, case_goes, case_polls, all_rest, all_wait, choice-so, none-rests, or-is, sends-none}
use Rattle.gt_rules.specs.Operations.{operation}
use Rattle.gt_book.proofs.Meeting.{plain-is, recv-is, send-is, choice-is, stands-awake, operates-awake, Met, sender-met, receiver-met, parked-other, suspended-parked, signals-rightly, open-is, met-open, timer-alone, timer-unready, with-is, cancel-is}
use Rattle.gt_rules.specs.Contexts.{made_context, starting, hook_is_due, is_waiting_hook}
use Rattle.gt_model.specs.declared.context.Context.{Context}
use Rattle.gt_model.specs.declared.context.End.{End}
use Rattle.gt_model.specs.declared.context.ErrVal.{ErrVal}
use Rattle.gt_model.specs.declared.context.CauseVal.{CauseVal}
use Rattle.gt_book.specs.declared.answers.TimerOp.{TimerOp}

-- ---- what a goroutine in hand does

-- a place in a code has an instruction
placed-some : {X : Type 0} (xs : List X) (i : ℕ) → i < length xs → (x : X) × (slice_get xs i ≡ Some x)
placed-some [] i h = absurd (omega arith)
placed-some (x ∷ xs) zero h = (x, refl)
placed-some (x ∷ xs) (suc i) h = placed-some xs i (omega arith)

-- who is in hand stands at its instruction
agrees-stands : (script : Script) (s : State) (r : Goroutine) (mode : Mode) → r.mode ≡ mode → Agrees mode RunStatus.InHand
    → IsPlacedIn (code_of script r.place.func) r.place mode → (i : Instr) × (stands script r ≡ Some i) × (silent r.place i ≡ None)
agrees-stands script s r Mode.At is h placed =
    let found : (i : Instr) × (instr_at script r.place ≡ Some i) = placed-some (code_of script r.place.func) r.place.at placed.0.within in (
      found.0,
      ap (λ (mode : Mode). elim mode [ Mode.At ↦ instr_at script r.place | _ ↦ None ]) is ∙ found.1,
      sym (ap (λ (o : Option Instr). elim o as (λ o. Option Place) [ None ↦ None | Some i ↦ silent r.place i ]) found.1) ∙ placed.1,
    )
agrees-stands script s r (Mode.Sleeping until) is h placed = absurd h
agrees-stands script s r (Mode.Suspended k) is h placed = absurd h
agrees-stands script s r (Mode.Relocking k) is h placed = absurd h
agrees-stands script s r Mode.Ended is h placed = absurd h

pub in_hand-stands : (v : BookView) (g : ℕ) → IsLawful v → status_of v.schedule g ≡ Some RunStatus.InHand → (i : Instr) × (stands_at v.script v.state g ≡ Some i) × (p : Place) × (silent p i ≡ None)
in_hand-stands v g lawful e =
    let k : Known v.script v.state v.schedule g RunStatus.InHand = known v.script v.state v.schedule g RunStatus.InHand lawful.fits e in
    let found = agrees-stands v.script v.state k.who k.who.mode refl k.agrees (lawful.formed.placed g k.who k.there) in
    (found.0, ap (λ (o : Option Goroutine). elim o [ None ↦ None | Some r ↦ stands v.script r ]) k.there ∙ found.1, k.who.place, found.2)

pub in_hand-steps : (v : BookView) (g : ℕ) → IsLawful v → status_of v.schedule g ≡ Some RunStatus.InHand → IsSome (step_of v.script v.state v.schedule g)
in_hand-steps v g lawful e =
    let found = in_hand-stands v g lawful e in
    ap (λ (o : Option Instr). is_some (elim o [ None ↦ None | Some i ↦ Some (step_or_panic v.script v.state v.schedule g i (fault v.script v.state i)) ])) found.1

-- nobody stands at the bounds of a loop or at a jump
never-nowhere : (script : Script) (s : State) (m : Schedule) (g : ℕ) (p : Place) (i : Instr) (o : Option Reason) → silent p i ≡ None → step_or_panic script s m g i o ≡ Step.Nowhere → ⊥
never-nowhere script s m g p i (Some reason) acts h = cc
never-nowhere script s m g p (Instr.LoopTop depth count past) None acts h = cc
never-nowhere script s m g p (Instr.LoopEnd depth top) None acts h = cc
never-nowhere script s m g p (Instr.Jump to) None acts h = cc
never-nowhere script s m g p (Instr.Select cases default_to) None acts h =
    choice-is (λ step. step ≡ Step.Nowhere → ⊥) (λ e k. cc) (λ t k. cc) (λ timed k. cc) script s m g cases default_to h
never-nowhere script s m g p (Instr.Sleep zero) None acts h = cc
never-nowhere script s m g p (Instr.Sleep (suc d)) None acts h = cc
never-nowhere script s m g p (Instr.Recv o) None acts h = recv-is (λ step. step ≡ Step.Nowhere → ⊥) (λ e k. cc) (λ kind k. cc) (λ t k. cc) script s m g o h
never-nowhere script s m g p (Instr.Send c v) None acts h = send-is (λ step. step ≡ Step.Nowhere → ⊥) (λ e k. cc) (λ kind k. cc) script s m g c v h
never-nowhere script s m g p (Instr.Lock k) None acts h = plain-is (λ step. step ≡ Step.Nowhere → ⊥) (λ e q. cc) (λ kind q. cc) (CaseKind.Recv k) (goes_by script s m (plainly g) (CaseKind.Recv k)) h
never-nowhere script s m g p (Instr.Wait w) None acts h = plain-is (λ step. step ≡ Step.Nowhere → ⊥) (λ e q. cc) (λ kind q. cc) (CaseKind.Recv w) (goes_by script s m (plainly g) (CaseKind.Recv w)) h
never-nowhere script s m g p (Instr.With x) None acts h = with-is (λ step. step ≡ Step.Nowhere → ⊥) (λ e q. cc) (λ x due q. cc) script s m g x h
never-nowhere script s m g p (Instr.Cancel x cause) None acts h = cancel-is (λ step. step ≡ Step.Nowhere → ⊥) (λ e q. cc) (λ x q. cc) script s m g x cause h
never-nowhere script s m g p i None acts h = cc

pub in_hand-acts : (v : BookView) (g : ℕ) → IsLawful v → status_of v.schedule g ≡ Some RunStatus.InHand → step_of v.script v.state v.schedule g ≡ Some Step.Nowhere → ⊥
in_hand-acts v g lawful e h =
    let found = in_hand-stands v g lawful e in
    let is : step_of v.script v.state v.schedule g ≡ Some (step_or_panic v.script v.state v.schedule g found.0 (fault v.script v.state found.0)) =
    ap (λ (o : Option Instr). elim o as (λ o. Option Step) [ None ↦ None | Some i ↦ Some (step_or_panic v.script v.state v.schedule g i (fault v.script v.state i)) ]) found.1 in
    let both : Some (step_or_panic v.script v.state v.schedule g found.0 (fault v.script v.state found.0)) ≡ Some Step.Nowhere = sym is ∙ h in
    never-nowhere v.script v.state v.schedule g found.2 found.0 (fault v.script v.state found.0) found.3 (some-same _ _ both)
  where
    some-same : (x y : Step) → Some x ≡ Some y → x ≡ y
    some-same x y e = cc

-- a step is of the instruction at which g stands
pub record IsStep (script : Script) (s : State) (m : Schedule) (g : ℕ) (step : Step) : Type 0 where
  pub instr : Instr
  pub stands : stands_at script s g ≡ Some instr
  pub is : step_or_panic script s m g instr (fault script s instr) ≡ step

pub step-is : (script : Script) (s : State) (m : Schedule) (g : ℕ) (step : Step) → step_of script s m g ≡ Some step → IsStep script s m g step
step-is script s m g step e =
    elim (stands_at script s g) as (λ o. stands_at script s g ≡ o
    → (elim o [ None ↦ None | Some i ↦ Some (step_or_panic script s m g i (fault script s i)) ]) ≡ Some step → IsStep script s m g step) [
      | None ↦ λ q h. cc
      | Some i ↦ λ q h. record { instr = i; stands = q; is = cc }
    ] refl e

-- who has its goroutine in hand may make its entry
pub in_hand-goes : (o : Option RunStatus) → o ≡ Some RunStatus.InHand → IsTrue (is_in_hand o || is_parked o)
in_hand-goes o e = ap (λ o. is_in_hand o || is_parked o) e

-- ---- what the entry of a step does not do

abbrev pub IsAwake : Move → Type 0
IsAwake (Move.FallsAsleep until) = ⊥
IsAwake _ = Unit {0}

-- a change that sets no timer, moves no clock, lets nobody sleep, signals no more than one and ends no context
pub record IsCall (c : Change) : Type 0 where
  pub mover : IfSome c.mover (λ (x : ℕ × Move). IsAwake x.1)
  pub partner : IfSome c.partner (λ (x : ℕ × Move). IsAwake x.1)
  pub timer : c.timer ≡ None
  pub clock : c.clock ≡ None
  pub alone : c.broadcast ≡ None
  pub uncut : is_cut c.tree ≡ false

-- such an entry
abbrev IsCalled : Step → Type 0
IsCalled (Step.Makes e) = IsCall (change_of e)
IsCalled _ = Unit {0}

abbrev AreCalled : Option Entry → Type 0
AreCalled None = Unit {0}
AreCalled (Some e) = IsCall (change_of e)

called-receives : (p : Party) (c : ℕ) (items : List ℕ) (closed : Bool) → AreCalled (receives_alone p c items closed)
called-receives p c (v ∷ items) closed = record { mover = tt; partner = tt; timer = refl; clock = refl; alone = refl; uncut = refl }
called-receives p c [] true = record { mover = tt; partner = tt; timer = refl; clock = refl; alone = refl; uncut = refl }
called-receives p c [] false = tt

called-takes : (s : State) (p : Party) (o : ℕ) (w : Option What) → AreCalled (takes_alone s p o w)
called-takes s p o None = tt
called-takes s p o (Some What.Mutex) = by (is_locked s o)
  where
    by : (b : Bool) → AreCalled (cond b None (Some (Entry.Lock p.g o)))
    by true = tt
    by false = record { mover = tt; partner = tt; timer = refl; clock = refl; alone = refl; uncut = refl }
called-takes s p o (Some What.Wg) = by (is_done s o)
  where
    by : (b : Bool) → AreCalled (cond b (Some (Entry.WgWait p.g o)) None)
    by true = record { mover = tt; partner = tt; timer = refl; clock = refl; alone = refl; uncut = refl }
    by false = tt
called-takes s p o (Some (What.Ctx parent form)) = by (has_ended s o)
  where
    by : (b : Bool) → AreCalled (cond b (Some (Entry.CtxDone p o)) None)
    by true = record { mover = tt; partner = tt; timer = refl; clock = refl; alone = refl; uncut = refl }
    by false = tt
called-takes s p o (Some _) = tt

called-sends : (p : Party) (c v : ℕ) (closed room : Bool) → AreCalled (sends_alone p c v closed room)
called-sends p c v true room = record { mover = tt; partner = tt; timer = refl; clock = refl; alone = refl; uncut = refl }
called-sends p c v false true = record { mover = tt; partner = tt; timer = refl; clock = refl; alone = refl; uncut = refl }
called-sends p c v false false = tt

called-sender : (script : Script) (s : State) (p : Party) (c : ℕ) (o : Option Party) → AreCalled (meets_sender script s p c o)
called-sender script s p c None = tt
called-sender script s p c (Some q) = record { mover = tt; partner = tt; timer = refl; clock = refl; alone = refl; uncut = refl }

called-receiver : (p : Party) (c v : ℕ) (o : Option Party) → AreCalled (meets_receiver p c v o)
called-receiver p c v None = tt
called-receiver p c v (Some q) = record { mover = tt; partner = tt; timer = refl; clock = refl; alone = refl; uncut = refl }

called-where : (b : Bool) (o other : Option Entry) → AreCalled o → AreCalled other → AreCalled (cond b o other)
called-where true o other h k = h
called-where false o other h k = k

called-first : (a b : Option Entry) → AreCalled a → AreCalled b → AreCalled (or_next a b)
called-first None b h k = k
called-first (Some e) b h k = h

called-by : (script : Script) (s : State) (m : Schedule) (p : Party) (kind : CaseKind) → AreCalled (goes_by script s m p kind)
called-by script s m p (CaseKind.Recv o) =
    called-first (goes_alone script s p (CaseKind.Recv o)) (meets script s m p (CaseKind.Recv o))
    (called-where (is_chan script o) (receives_alone p o (items_of s o) (is_closed s o)) (takes_alone s p o (what_at script o))
    (called-receives p o (items_of s o) (is_closed s o)) (called-takes s p o (what_at script o)))
    (called-where (is_chan script o) (meets_sender script s p o (partner_in script m.senders o)) None
    (called-sender script s p o (partner_in script m.senders o)) tt)
called-by script s m p (CaseKind.Send c v) =
    called-first (goes_alone script s p (CaseKind.Send c v)) (meets script s m p (CaseKind.Send c v))
    (called-sends p c v (is_closed s c) (nat_lt (item_count s c) (capacity_of script c))) (called-receiver p c v (partner_in script m.receivers c))

called-plain : (kind : CaseKind) (o : Option Entry) → AreCalled o → IsCalled (plain_step kind o)
called-plain kind None h = tt
called-plain kind (Some e) h = h

called-choice : (script : Script) (s : State) (m : Schedule) (g : ℕ) (cases : List Case) (default_to : Option ℕ) (step : Step) → ChoiceIs script s m g cases default_to step → IsCalled step
called-choice script s m g cases default_to step (case_goes n kind e has by) = subst AreCalled by (called-by script s m (at_case g n) kind)
called-choice script s m g cases default_to step (case_polls n kind t has come) = tt
called-choice script s m g cases default_to step (all_rest to e none) = record { mover = tt; partner = tt; timer = refl; clock = refl; alone = refl; uncut = refl }
called-choice script s m g cases default_to step (all_wait e none) = tt

called : (script : Script) (s : State) (m : Schedule) (g : ℕ) (i : Instr) → IsCalled (step_of_instr script s m g i)
called script s m g (Instr.Say n) = record { mover = tt; partner = tt; timer = refl; clock = refl; alone = refl; uncut = refl }
called script s m g Instr.Now = record { mover = tt; partner = tt; timer = refl; clock = refl; alone = refl; uncut = refl }
called script s m g (Instr.Sleep zero) = record { mover = tt; partner = tt; timer = refl; clock = refl; alone = refl; uncut = refl }
called script s m g (Instr.Sleep (suc d)) = tt
called script s m g (Instr.Go f) = record { mover = tt; partner = tt; timer = refl; clock = refl; alone = refl; uncut = refl }
called script s m g (Instr.Make c) = record { mover = tt; partner = tt; timer = refl; clock = refl; alone = refl; uncut = refl }
called script s m g (Instr.Close c) = record { mover = tt; partner = tt; timer = refl; clock = refl; alone = refl; uncut = refl }
called script s m g Instr.Finish = record { mover = tt; partner = tt; timer = refl; clock = refl; alone = refl; uncut = refl }
called script s m g (Instr.Recv o) = received (is_chan script o || is_ctx script o)
  where
    received : (b : Bool) → IsCalled (cond b (plain_step (CaseKind.Recv o) (goes_by script s m (plainly g) (CaseKind.Recv o))) (Step.Waits o))
    received true = called-plain (CaseKind.Recv o) (goes_by script s m (plainly g) (CaseKind.Recv o)) (called-by script s m (plainly g) (CaseKind.Recv o))
    received false = tt
called script s m g (Instr.Send c v) = called-plain (CaseKind.Send c v) (goes_by script s m (plainly g) (CaseKind.Send c v)) (called-by script s m (plainly g) (CaseKind.Send c v))
called script s m g (Instr.Select cases default_to) = called-choice script s m g cases default_to _ (choice-so script s m g cases default_to)
called script s m g (Instr.Lock k) = called-plain (CaseKind.Recv k) (goes_by script s m (plainly g) (CaseKind.Recv k)) (called-by script s m (plainly g) (CaseKind.Recv k))
called script s m g (Instr.Wait w) = called-plain (CaseKind.Recv w) (goes_by script s m (plainly g) (CaseKind.Recv w)) (called-by script s m (plainly g) (CaseKind.Recv w))
called script s m g (Instr.Unlock k) = record { mover = tt; partner = tt; timer = refl; clock = refl; alone = refl; uncut = refl }
called script s m g (Instr.CWait k) = record { mover = tt; partner = tt; timer = refl; clock = refl; alone = refl; uncut = refl }
called script s m g (Instr.Signal k) = by (option_map (λ (p : Party). p.g) (slice_get (parties_at m.receivers k) 0))
  where
    by : (woken : Option ℕ) → IsCall (change_of (Entry.Signal g k woken))
    by None = record { mover = tt; partner = tt; timer = refl; clock = refl; alone = refl; uncut = refl }
    by (Some h) = record { mover = tt; partner = tt; timer = refl; clock = refl; alone = refl; uncut = refl }
called script s m g (Instr.Broadcast k) = tt
called script s m g (Instr.Add w n) = record { mover = tt; partner = tt; timer = refl; clock = refl; alone = refl; uncut = refl }
called script s m g (Instr.With x) = by (live_deadline (made_context script s (world_of s g) x))
  where
    by : (o : Option ℕ)
        → IsCalled (elim o as (λ o. Step) [ None ↦ Step.Makes (Entry.CtxMake g x (is_some (made_context script s (world_of s g) x).end)) | Some due ↦ Step.Needs (TimerOp.Deadline x due) ])
    by None = record { mover = tt; partner = tt; timer = refl; clock = refl; alone = refl; uncut = refl }
    by (Some due) = tt
called script s m g (Instr.Cancel x cause) = by (has_ended s x)
  where
    by : (b : Bool) → IsCalled (cancels g x b)
    by true = record { mover = tt; partner = tt; timer = refl; clock = refl; alone = refl; uncut = refl }
    by false = tt
called script s m g (Instr.ErrOf x) = record { mover = tt; partner = tt; timer = refl; clock = refl; alone = refl; uncut = refl }
called script s m g (Instr.CauseOf x) = record { mover = tt; partner = tt; timer = refl; clock = refl; alone = refl; uncut = refl }
called script s m g (Instr.After h) = record { mover = tt; partner = tt; timer = refl; clock = refl; alone = refl; uncut = refl }
called script s m g (Instr.Unhook h) = record { mover = tt; partner = tt; timer = refl; clock = refl; alone = refl; uncut = refl }
called script s m g (Instr.Jump to) = tt
called script s m g (Instr.New t d) = tt
called script s m g (Instr.Stop t) = tt
called script s m g (Instr.Reset t d) = tt
called script s m g (Instr.LoopTop depth count past) = tt
called script s m g (Instr.LoopEnd depth top) = tt

pub calm-call : (script : Script) (s : State) (m : Schedule) (g : ℕ) (i : Instr) (e : Entry) → step_of_instr script s m g i ≡ Step.Makes e → IsCall (change_of e)
calm-call script s m g i e h = subst IsCalled h (called script s m g i)

-- and every step is such a call
pub makes-call : (script : Script) (s : State) (m : Schedule) (g : ℕ) (e : Entry) → step_of script s m g ≡ Some (Step.Makes e) → IsCall (change_of e)
makes-call script s m g e h =
    let step : IsStep script s m g (Step.Makes e) = step-is script s m g (Step.Makes e) h in
    subst IsCalled step.is (each step.instr (fault script s step.instr))
  where
    each : (i : Instr) (o : Option Reason) → IsCalled (step_or_panic script s m g i o)
    each i None = called script s m g i
    each i (Some reason) = record { mover = tt; partner = tt; timer = refl; clock = refl; alone = refl; uncut = refl }

-- ---- what the entry of a step is

-- an entry of g alone, or one with a partner that is parked, or one that signals who is suspended
pub data MakesSo (script : Script) (s : State) (m : Schedule) (g : ℕ) : Entry → Type 0 where
  alone : (e : Entry) (move : Move) → May script s e → MayMove (Some RunStatus.InHand) move → (change_of e).mover ≡ Some (g, move) → (change_of e).partner ≡ None → MakesSo script s m g e
  from_partner : (q : Party) (n c v : ℕ) → is_waiting m q.g ≡ true → May script s (Entry.Pair q (at_case g n) c v) → MakesSo script s m g (Entry.Pair q (at_case g n) c v)
  to_partner : (q : Party) (n c v : ℕ) → is_waiting m q.g ≡ true → May script s (Entry.Pair (at_case g n) q c v) → MakesSo script s m g (Entry.Pair (at_case g n) q c v)
  to_suspended : (h k : ℕ) → is_waiting m h ≡ true → May script s (Entry.Signal g k (Some h)) → MakesSo script s m g (Entry.Signal g k (Some h))

not-and_left : (a b : Bool) → a ≡ false → not (a && b) ≡ true
not-and_left false b h = refl
not-and_left true b h = cc

not-and_right : (a b : Bool) → b ≡ false → not (a && b) ≡ true
not-and_right false b h = refl
not-and_right true false h = refl
not-and_right true true h = cc

-- who chooses to send to a closed channel may panic so
panics-closed : (script : Script) (s : State) (p : Party) (c v : ℕ) → Operates script s p (CaseKind.Send c v) → is_closed s c ≡ true → MayPanic script s p Reason.Closed
panics-closed script s p c v sends shut =
    subst (λ (o : Option (ℕ × Reason)). MatchOption o (ChoosesClosed s (operation_at script s p) Reason.Closed) (λ x. x ≡ (p.case_no, Reason.Closed))) (sym sends.calm)
    (subst (λ o. ChoosesClosed s o Reason.Closed) (sym sends.stands) (shut, refl))

module _ (script : Script) (s : State) (m : Schedule) (g : ℕ) (good : IsGood script) (formed : IsFormed script s) (fits : Fits script s m) (calm : IsCalm script s m)
    (in_hand : status_of m g ≡ Some RunStatus.InHand) where
  -- an operation that goes on by itself
  makes-receives : (n c : ℕ) (items : List ℕ) (closed : Bool) (e : Entry) → items_of s c ≡ items → is_closed s c ≡ closed → IsTrue (is_chan script c)
      → Operates script s (at_case g n) (CaseKind.Recv c) → receives_alone (at_case g n) c items closed ≡ Some e → MakesSo script s m g e
  makes-receives n c (v ∷ items) closed e kept shut chan gets h =
      let is : Entry.Recv (at_case g n) c (Some v) ≡ e = cc in
      subst (MakesSo script s m g) is (alone (Entry.Recv (at_case g n) c (Some v)) (Move.GoesOn n) (gets, chan, ap (λ (xs : List ℕ). slice_get xs 0) kept) refl refl refl)
  makes-receives n c [] true e kept shut chan gets h =
      let is : Entry.Recv (at_case g n) c None ≡ e = cc in
      subst (MakesSo script s m g) is (alone (Entry.Recv (at_case g n) c None) (Move.GoesOn n) (gets, chan, (kept, shut)) refl refl refl)
  makes-receives n c [] false e kept shut chan gets h = cc

  -- a mutex that nobody has is locked, a wait for a WaitGroup ends whose counter is 0, and one for a context that has ended
  makes-takes : (n o : ℕ) (w : Option What) (e : Entry) → what_at script o ≡ w → Operates script s (at_case g n) (CaseKind.Recv o) → takes_alone s (at_case g n) o w ≡ Some e
      → MakesSo script s m g e
  makes-takes n o (Some What.Mutex) e is gets h =
      let mutex : IsTrue (is_mutex script o) = ap names_mutex is in
      let locks : Does script s g (Instr.Lock o) = (locks-Operates script s (at_case g n) o good gets mutex).0 in
      elim (is_locked s o) as (λ b. is_locked s o ≡ b → cond b None (Some (Entry.Lock g o)) ≡ Some e → MakesSo script s m g e) [
        | true ↦ λ q k. cc
        | false ↦ λ q k. let same : Entry.Lock g o ≡ e = cc in subst (MakesSo script s m g) same (alone (Entry.Lock g o) (Move.GoesOn 0) (locks, mutex, q) refl refl refl)
      ] refl h
  makes-takes n o (Some What.Wg) e is gets h =
      let wg : IsTrue (is_wg script o) = ap names_wg is in
      let waits : Does script s g (Instr.Wait o) = (waits-Operates script s (at_case g n) o good gets wg).0 in
      elim (is_done s o) as (λ b. is_done s o ≡ b → cond b (Some (Entry.WgWait g o)) None ≡ Some e → MakesSo script s m g e) [
        | true ↦ λ q k.
            let same : Entry.WgWait g o ≡ e = cc in
            subst (MakesSo script s m g) same (alone (Entry.WgWait g o) (Move.GoesOn 0) (waits, wg, eqb-true (counter_of s o) 0 q) refl refl refl)
        | false ↦ λ q k. cc
      ] refl h
  makes-takes n o (Some (What.Ctx parent form)) e is gets h =
      let ctx : IsTrue (is_ctx script o) = ap names_ctx is in
      elim (has_ended s o) as (λ b. has_ended s o ≡ b → cond b (Some (Entry.CtxDone (at_case g n) o)) None ≡ Some e → MakesSo script s m g e) [
        | true ↦ λ q k.
            let same : Entry.CtxDone (at_case g n) o ≡ e = cc in
            subst (MakesSo script s m g) same (alone (Entry.CtxDone (at_case g n) o) (Move.GoesOn n) (gets, ctx, q) refl refl refl)
        | false ↦ λ q k. cc
      ] refl h
  makes-takes n o _ e is gets h = cc

  makes-sends : (n c v : ℕ) (closed room : Bool) (e : Entry) → is_closed s c ≡ closed → nat_lt (item_count s c) (capacity_of script c) ≡ room → is_some (channel_at s c) ≡ true
      → Operates script s (at_case g n) (CaseKind.Send c v) → sends_alone (at_case g n) c v closed room ≡ Some e → MakesSo script s m g e
  makes-sends n c v true room e shut has made sends h =
      let is : Entry.Panic (at_case g n) Reason.Closed ≡ e = cc in
      subst (MakesSo script s m g) is (alone (Entry.Panic (at_case g n) Reason.Closed) Move.Panics (panics-closed script s (at_case g n) c v sends shut) refl refl refl)
  makes-sends n c v false true e shut has made sends h =
      let is : Entry.Send (at_case g n) c v ≡ e = cc in
      subst (MakesSo script s m g) is (alone (Entry.Send (at_case g n) c v) (Move.GoesOn n)
      (sends, open-is s c (record { made = made; unshut = shut }), ltb-true (item_count s c) (capacity_of script c) has) refl refl refl)
  makes-sends n c v false false e shut has made sends h = cc

  -- an operation that goes on with a partner
  makes-sender : (n c : ℕ) (sender : Option Party) (e : Entry) → partner_in script m.senders c ≡ sender → IsTrue (is_chan script c)
      → Operates script s (at_case g n) (CaseKind.Recv c) → meets_sender script s (at_case g n) c sender ≡ Some e → MakesSo script s m g e
  makes-sender n c None e met chan gets h = cc
  makes-sender n c (Some q) e met chan gets h =
      let v : ℕ = value_of (operation_at script s q) in
      let is : Entry.Pair q (at_case g n) c v ≡ e = cc in
      let sender : Met script s m q c (CaseKind.Send c v) = sender-met script s m q c good formed fits calm chan met in
      subst (MakesSo script s m g) is (from_partner q n c v sender.waits (
        sender.operates,
        gets,
        met-open script s m q c v calm sender,
        sender.none_kept,
        parked-other m q.g g sender.waits in_hand,
        not-and_left (is_polling script s q.g) (is_polling script s g) sender.settled,
      ))

  makes-receiver : (n c v : ℕ) (receiver : Option Party) (e : Entry) → partner_in script m.receivers c ≡ receiver → IsTrue (is_chan script c) → IsTrue (is_open s c)
      → Operates script s (at_case g n) (CaseKind.Send c v) → meets_receiver (at_case g n) c v receiver ≡ Some e → MakesSo script s m g e
  makes-receiver n c v None e met chan unshut sends h = cc
  makes-receiver n c v (Some q) e met chan unshut sends h =
      let is : Entry.Pair (at_case g n) q c v ≡ e = cc in
      let receiver : Met script s m q c (CaseKind.Recv c) = receiver-met script s m q c good formed fits calm chan met in
      subst (MakesSo script s m g) is (to_partner q n c v receiver.waits (
        sends,
        receiver.operates,
        unshut,
        receiver.none_kept,
        (λ same. parked-other m q.g g receiver.waits in_hand (sym same)),
        not-and_right (is_polling script s g) (is_polling script s q.g) receiver.settled,
      ))

  makes-by : (n : ℕ) (kind : CaseKind) (i : Instr) (e : Entry) → operation i n ≡ Some kind → Does script s g i → fault script s i ≡ None
      → goes_by script s m (at_case g n) kind ≡ Some e → MakesSo script s m g e
  makes-by n (CaseKind.Recv o) i e has does none h =
      let gets : Operates script s (at_case g n) (CaseKind.Recv o) = does-Operates script s (at_case g n) i (CaseKind.Recv o) has does in
      elim (is_chan script o) as (λ b. is_chan script o ≡ b
      → or_next (cond b (receives_alone (at_case g n) o (items_of s o) (is_closed s o)) (takes_alone s (at_case g n) o (what_at script o)))
      (cond b (meets_sender script s (at_case g n) o (partner_in script m.senders o)) None) ≡ Some e → MakesSo script s m g e) [
        | true ↦ λ chan k. elim (or-is (receives_alone (at_case g n) o (items_of s o) (is_closed s o)) (meets_sender script s (at_case g n) o (partner_in script m.senders o)) e k) [
          | inl by ↦ makes-receives n o (items_of s o) (is_closed s o) e refl refl chan gets by
          | inr by ↦ makes-sender n o (partner_in script m.senders o) e refl chan gets by.1
        ]
        | false ↦ λ plain k. elim (or-is (takes_alone s (at_case g n) o (what_at script o)) None e k) [
          | inl by ↦ makes-takes n o (what_at script o) e refl gets by
          | inr by ↦ absurd (none-some e by.1)
        ]
      ] refl h
    where
      none-some : (e : Entry) → None ≡ Some e → ⊥
      none-some e h = cc
  makes-by n (CaseKind.Send c v) i e has does none h =
      let sends : Operates script s (at_case g n) (CaseKind.Send c v) = does-Operates script s (at_case g n) i (CaseKind.Send c v) has does in
      let made : is_some (channel_at s c) ≡ true = sends-made script s i n c v none has in
      let chan : IsTrue (is_chan script c) = names-operation script i n (CaseKind.Send c v) has (names-Does script s g i good does) in
      elim (or-is (goes_alone script s (at_case g n) (CaseKind.Send c v)) (meets script s m (at_case g n) (CaseKind.Send c v)) e h) [
        | inl by ↦ makes-sends n c v (is_closed s c) (nat_lt (item_count s c) (capacity_of script c)) e refl refl made sends by
        | inr by ↦
            let unshut = sends-none (at_case g n) c v (is_closed s c) (nat_lt (item_count s c) (capacity_of script c)) by.0 in
            makes-receiver n c v (partner_in script m.receivers c) e refl chan (open-is s c (record { made = made; unshut = unshut.0 })) sends by.1
      ]

  makes-plain : (kind : CaseKind) (o : Option Entry) (e : Entry) → plain_step kind o ≡ Step.Makes e → o ≡ Some e
  makes-plain kind None e h = cc
  makes-plain kind (Some x) e h = cc

  makes-choice : (cases : List Case) (default_to : Option ℕ) (step : Step) (e : Entry) → Does script s g (Instr.Select cases default_to) → fault script s (Instr.Select cases default_to) ≡ None
      → ChoiceIs script s m g cases default_to step → step ≡ Step.Makes e → MakesSo script s m g e
  makes-choice cases default_to step e does none (case_goes n kind x has by) h =
      let is : x ≡ e = cc in
      subst (MakesSo script s m g) is (makes-by n kind (Instr.Select cases default_to) x has does none by)
  makes-choice cases default_to step e does none (case_polls n kind t has come) h = cc
  makes-choice cases default_to step e does none (all_rest to is_to rest) h =
      let is : Entry.Default g ≡ e = cc in
      let here : Does script s g (Instr.Select cases (Some to)) = subst (λ o. Does script s g (Instr.Select cases o)) is_to does in
      subst (MakesSo script s m g) is (alone (Entry.Default g) (Move.GoesOn 0)
      (record { cases = cases; to = to; does = here; none = none-rests script s m g cases 1 rest }) refl refl refl)
  makes-choice cases default_to step e does none (all_wait is_none rest) h = cc

  -- a signal wakes who has waited longest at its Cond, or nobody
  makes-signal : (k : ℕ) (woken : Option ℕ) → Does script s g (Instr.Signal k) → Signals s k woken → MakesSo script s m g (Entry.Signal g k woken)
  makes-signal k None does wakes = alone (Entry.Signal g k None) (Move.GoesOn 0) (does, wakes) refl refl refl
  makes-signal k (Some h) does wakes = to_suspended h k (suspended-parked script s m h k fits wakes) (does, wakes)

  makes-instr : (i : Instr) (e : Entry) → Does script s g i → fault script s i ≡ None → step_of_instr script s m g i ≡ Step.Makes e → MakesSo script s m g e
  makes-instr (Instr.Say n) e does none h =
      let is : Entry.Say g n ≡ e = cc in subst (MakesSo script s m g) is (alone (Entry.Say g n) (Move.GoesOn 0) does refl refl refl)
  makes-instr Instr.Now e does none h =
      let is : Entry.Now g (clock_of s g) ≡ e = cc in subst (MakesSo script s m g) is (alone (Entry.Now g (clock_of s g)) (Move.GoesOn 0) (does, refl) refl refl refl)
  makes-instr (Instr.Sleep zero) e does none h =
      let is : Entry.Sleep g None ≡ e = cc in subst (MakesSo script s m g) is (alone (Entry.Sleep g None) (Move.GoesOn 0) (0, does, refl) refl refl refl)
  makes-instr (Instr.Sleep (suc d)) e does none h = cc
  makes-instr (Instr.Go f) e does none h =
      let is : Entry.Go g (length s.goroutines + 1) f ≡ e = cc in
      subst (MakesSo script s m g) is (alone (Entry.Go g (length s.goroutines + 1) f) (Move.GoesOn 0) (does, refl) refl refl refl)
  makes-instr (Instr.Recv o) e does none h =
      elim (is_chan script o || is_ctx script o) as (λ b. cond b (plain_step (CaseKind.Recv o) (goes_by script s m (plainly g) (CaseKind.Recv o))) (Step.Waits o) ≡ Step.Makes e → MakesSo script s m g e) [
        | true ↦ λ k.
            makes-by 0 (CaseKind.Recv o) (Instr.Recv o) e refl does none (makes-plain (CaseKind.Recv o) (goes_by script s m (plainly g) (CaseKind.Recv o)) e k)
        | false ↦ λ k. cc
      ] h
  makes-instr (Instr.Make c) e does none h =
      let is : Entry.Make g c ≡ e = cc in subst (MakesSo script s m g) is (alone (Entry.Make g c) (Move.GoesOn 0) does refl refl refl)
  makes-instr (Instr.Send c v) e does none h =
      makes-by 0 (CaseKind.Send c v) (Instr.Send c v) e refl does none (makes-plain (CaseKind.Send c v) (goes_by script s m (plainly g) (CaseKind.Send c v)) e h)
  makes-instr (Instr.Select cases default_to) e does none h = makes-choice cases default_to _ e does none (choice-so script s m g cases default_to) h
  makes-instr (Instr.Close c) e does none h =
      let is : Entry.Close g c ≡ e = cc in subst (MakesSo script s m g) is (alone (Entry.Close g c) (Move.GoesOn 0) does refl refl refl)
  makes-instr (Instr.Lock k) e does none h =
      makes-by 0 (CaseKind.Recv k) (Instr.Lock k) e refl does none (makes-plain (CaseKind.Recv k) (goes_by script s m (plainly g) (CaseKind.Recv k)) e h)
  makes-instr (Instr.Unlock k) e does none h =
      let is : Entry.Unlock g k ≡ e = cc in subst (MakesSo script s m g) is (alone (Entry.Unlock g k) (Move.GoesOn 0) does refl refl refl)
  makes-instr (Instr.CWait k) e does none h =
      let is : Entry.CondWait g k ≡ e = cc in subst (MakesSo script s m g) is (alone (Entry.CondWait g k) (Move.Suspends k) does refl refl refl)
  makes-instr (Instr.Signal k) e does none h =
      let woken : Option ℕ = option_map (λ (p : Party). p.g) (slice_get (parties_at m.receivers k) 0) in
      let is : Entry.Signal g k woken ≡ e = cc in
      subst (MakesSo script s m g) is (makes-signal k woken does (signals-rightly script s m k good formed fits (names-Does script s g (Instr.Signal k) good does)))
  makes-instr (Instr.Broadcast k) e does none h = cc
  makes-instr (Instr.Add w n) e does none h =
      let is : Entry.Add g w n ≡ e = cc in subst (MakesSo script s m g) is (alone (Entry.Add g w n) (Move.GoesOn 0) does refl refl refl)
  makes-instr (Instr.Wait w) e does none h =
      makes-by 0 (CaseKind.Recv w) (Instr.Wait w) e refl does none (makes-plain (CaseKind.Recv w) (goes_by script s m (plainly g) (CaseKind.Recv w)) e h)
  makes-instr Instr.Finish e does none h =
      let is : Entry.End g ≡ e = cc in subst (MakesSo script s m g) is (alone (Entry.End g) Move.Ends does refl refl refl)
  makes-instr (Instr.With x) e does none h =
      let r : Context = made_context script s (world_of s g) x in
      elim (live_deadline r)
      as (λ o. (elim o as (λ o. Step) [ None ↦ Step.Makes (Entry.CtxMake g x (is_some r.end)) | Some due ↦ Step.Needs (TimerOp.Deadline x due) ]) ≡ Step.Makes e → MakesSo script s m g e) [
        | None ↦ λ k.
            let is : Entry.CtxMake g x (is_some r.end) ≡ e = cc in
            subst (MakesSo script s m g) is (alone (Entry.CtxMake g x (is_some r.end)) (Move.GoesOn 0) (does, refl) refl refl refl)
        | Some due ↦ λ k. cc
      ] h
  makes-instr (Instr.Cancel x cause) e does none h =
      elim (has_ended s x) as (λ b. has_ended s x ≡ b → cancels g x b ≡ Step.Makes e → MakesSo script s m g e) [
        | true ↦ λ q k.
            let is : Entry.Cancel g x false 0 ≡ e = cc in
            subst (MakesSo script s m g) is (alone (Entry.Cancel g x false 0) (Move.GoesOn 0)
            (cause, does, ap not (sym q), ap (λ b. cond b 0 (length (starting script s x))) (sym q)) refl refl refl)
        | false ↦ λ q k. cc
      ] refl h
  makes-instr (Instr.ErrOf x) e does none h =
      let err : Option ErrVal = option_map (λ (end : End). end.err) (end_at s x) in
      let is : Entry.CtxErr g x err ≡ e = cc in subst (MakesSo script s m g) is (alone (Entry.CtxErr g x err) (Move.GoesOn 0) (does, refl) refl refl refl)
  makes-instr (Instr.CauseOf x) e does none h =
      let cause : Option CauseVal = option_map (λ (end : End). end.cause) (end_at s x) in
      let is : Entry.Cause g x cause ≡ e = cc in subst (MakesSo script s m g) is (alone (Entry.Cause g x cause) (Move.GoesOn 0) (does, refl) refl refl refl)
  makes-instr (Instr.After k) e does none h =
      let child : Option ℕ = cond (hook_is_due script s k) (Some (next_number s)) None in
      let is : Entry.CtxAfter g k child ≡ e = cc in subst (MakesSo script s m g) is (alone (Entry.CtxAfter g k child) (Move.GoesOn 0) (does, refl) refl refl refl)
  makes-instr (Instr.Unhook k) e does none h =
      let stopped : Bool = is_waiting_hook (hook_at s k) in
      let is : Entry.CtxStop g k stopped ≡ e = cc in subst (MakesSo script s m g) is (alone (Entry.CtxStop g k stopped) (Move.GoesOn 0) (does, refl) refl refl refl)
  makes-instr (Instr.New t d) e does none h = cc
  makes-instr (Instr.Stop t) e does none h = cc
  makes-instr (Instr.Reset t d) e does none h = cc
  makes-instr (Instr.LoopTop depth count past) e does none h = cc
  makes-instr (Instr.LoopEnd depth top) e does none h = cc
  makes-instr (Instr.Jump to) e does none h = cc

  pub makes-so : (e : Entry) → step_of script s m g ≡ Some (Step.Makes e) → MakesSo script s m g e
  makes-so e h =
      let step : IsStep script s m g (Step.Makes e) = step-is script s m g (Step.Makes e) h in
      elim (fault script s step.instr) as (λ o. fault script s step.instr ≡ o → step_or_panic script s m g step.instr o ≡ Step.Makes e → MakesSo script s m g e) [
        | None ↦ λ q k. makes-instr step.instr e (record { stands = step.stands; calm = calm-standing script s g step.instr step.stands q }) q k
        | Some reason ↦ λ q k.
            let p : Party = at_case g (fault_case s step.instr) in
            let panics : panic_at script s g ≡ Some (p.case_no, reason) =
            panic-standing script s g step.instr step.stands
            ∙ ap (λ (o : Option Reason). elim o as (λ o. Option (ℕ × Reason)) [ None ↦ None | Some reason ↦ Some (fault_case s step.instr, reason) ]) q in
            let may : MayPanic script s p reason =
            subst (λ (o : Option (ℕ × Reason)). MatchOption o (ChoosesClosed s (operation_at script s p) reason) (λ x. x ≡ (p.case_no, reason))) (sym panics) refl in
            let is : Entry.Panic p reason ≡ e = cc in
            subst (MakesSo script s m g) is (alone (Entry.Panic p reason) Move.Panics may refl refl refl)
      ] refl step.is

so-may : (script : Script) (s : State) (m : Schedule) (g : ℕ) (e : Entry) → MakesSo script s m g e → May script s e
so-may script s m g e (alone _ move may moves mover none) = may
so-may script s m g e (from_partner q n c v waits may) = may
so-may script s m g e (to_partner q n c v waits may) = may
so-may script s m g e (to_suspended h k waits may) = may

pub makes-may : (script : Script) (s : State) (m : Schedule) (g : ℕ) (e : Entry) → IsGood script → IsFormed script s → Fits script s m → IsCalm script s m
    → status_of m g ≡ Some RunStatus.InHand → step_of script s m g ≡ Some (Step.Makes e) → May script s e
makes-may script s m g e good formed fits calm in_hand h = so-may script s m g e (makes-so script s m g good formed fits calm in_hand e h)

-- ---- who makes it

pub parked-goes : (o : Option RunStatus) → is_parked o ≡ true → IsTrue (is_in_hand o || is_parked o)
parked-goes o h = either (is_in_hand o) (is_parked o) h
  where
    either : (a b : Bool) → b ≡ true → (a || b) ≡ true
    either true b h = refl
    either false b h = h

-- the first of two moves leaves the other one where it was
gone_on-other : (m : Schedule) (g h : ℕ) (waits : Bool) → h ≢ g → status_of (gone_on m g waits) h ≡ status_of m h
gone_on-other m g h true other = numbered-change_other m.statuses g h (λ _. RunStatus.Queued) other
gone_on-other m g h false other = refl

in_hand-stays : (m : Schedule) (g h n : ℕ) → h ≢ g → status_of m h ≡ Some RunStatus.InHand → status_of (moved_by m (Some (g, Move.GoesOn n))) h ≡ Some RunStatus.InHand
in_hand-stays m g h n other e = gone_on-other m g h (is_parked (status_of m g)) other ∙ e

waits-stays : (m : Schedule) (g h n : ℕ) → h ≢ g → is_waiting m h ≡ true → is_waiting (moved_by m (Some (g, Move.GoesOn n))) h ≡ true
waits-stays m g h n other e = ap is_parked (gone_on-other m g h (is_parked (status_of m g)) other) ∙ e

so-served : (script : Script) (s : State) (m : Schedule) (g : ℕ) (e : Entry) → status_of m g ≡ Some RunStatus.InHand → MakesSo script s m g e → Served m e
so-served script s m g e in_hand (alone _ move may moves mover none) = (
  subst (ServedBy m) (sym mover) (subst (λ o. MayMove o move) (sym in_hand) moves),
  subst (ServedBy (moved_by m (change_of e).mover)) (sym none) tt,
)
so-served script s m g e in_hand (from_partner q n c v waits may) = (
  parked-goes (status_of m q.g) waits,
  in_hand-goes _ (in_hand-stays m q.g g q.case_no (λ same. parked-other m q.g g waits in_hand (sym same)) in_hand),
)
so-served script s m g e in_hand (to_partner q n c v waits may) = (
  in_hand-goes (status_of m g) in_hand,
  parked-goes _ (waits-stays m g q.g n (parked-other m q.g g waits in_hand) waits),
)
so-served script s m g e in_hand (to_suspended h k waits may) = (in_hand-goes (status_of m g) in_hand, waits-stays m g h 0 (parked-other m h g waits in_hand) waits)

pub makes-served : (script : Script) (s : State) (m : Schedule) (g : ℕ) (e : Entry) → IsGood script → IsFormed script s → Fits script s m → IsCalm script s m
    → status_of m g ≡ Some RunStatus.InHand → step_of script s m g ≡ Some (Step.Makes e) → Served m e
makes-served script s m g e good formed fits calm in_hand h = so-served script s m g e in_hand (makes-so script s m g good formed fits calm in_hand e h)

-- nobody who moves by an entry sleeps
pub record AreAwake (s : State) (c : Change) : Type 0 where
  pub mover : IfSome c.mover (λ (x : ℕ × Move). sleeps_until s x.0 ≡ None)
  pub partner : IfSome c.partner (λ (x : ℕ × Move). sleeps_until s x.0 ≡ None)

so-awake : (script : Script) (s : State) (m : Schedule) (g : ℕ) (e : Entry) → sleeps_until s g ≡ None → MakesSo script s m g e → AreAwake s (change_of e)
so-awake script s m g e awake (alone _ move may moves mover none) = record {
  mover = subst (λ (o : Option (ℕ × Move)). IfSome o (λ x. sleeps_until s x.0 ≡ None)) (sym mover) awake;
  partner = subst (λ (o : Option (ℕ × Move)). IfSome o (λ x. sleeps_until s x.0 ≡ None)) (sym none) tt;
}
so-awake script s m g e awake (from_partner q n c v waits may) = record { mover = operates-awake script s q (CaseKind.Send c v) may.0; partner = awake }
so-awake script s m g e awake (to_partner q n c v waits may) = record { mover = awake; partner = operates-awake script s q (CaseKind.Recv c) may.1 }
so-awake script s m g e awake (to_suspended h k waits may) = record {
  mover = awake;
  partner = ap (λ (o : Option Mode). elim o as (λ o. Option ℕ) [ None ↦ None | Some mode ↦ until_of mode ]) may.1;
}

pub makes-awake : (script : Script) (s : State) (m : Schedule) (g : ℕ) (e : Entry) → IsGood script → IsFormed script s → Fits script s m → IsCalm script s m
    → status_of m g ≡ Some RunStatus.InHand → step_of script s m g ≡ Some (Step.Makes e) → AreAwake s (change_of e)
makes-awake script s m g e good formed fits calm in_hand h =
    let step : IsStep script s m g (Step.Makes e) = step-is script s m g (Step.Makes e) h in
    so-awake script s m g e (stands-awake script s g step.instr step.stands) (makes-so script s m g good formed fits calm in_hand e h)

-- ---- who waits at a timer

-- who waits at the receive of a timer stands there, and its timer was made
pub record WaitsRightly (script : Script) (s : State) (g t : ℕ) : Type 0 where
  pub stands : stands_at script s g ≡ Some (Instr.Recv t)
  pub timer : is_timer script t ≡ true
  pub plain : is_chan script t ≡ false
  pub other : is_ctx script t ≡ false
  pub faultless : fault script s (Instr.Recv t) ≡ None
  pub made : is_some (timer_at s t) ≡ true
  pub within : t < length script.decls

-- the instruction of a step that waits
record AtTimer (script : Script) (t : ℕ) (i : Instr) : Type 0 where
  is : i ≡ Instr.Recv t
  plain : (is_chan script t || is_ctx script t) ≡ false

instr-waits : (script : Script) (s : State) (m : Schedule) (g t : ℕ) (i : Instr) → step_of_instr script s m g i ≡ Step.Waits t → AtTimer script t i
instr-waits script s m g t (Instr.Recv o) h =
    elim (is_chan script o || is_ctx script o) as (λ b. (is_chan script o || is_ctx script o) ≡ b
    → cond b (plain_step (CaseKind.Recv o) (goes_by script s m (plainly g) (CaseKind.Recv o))) (Step.Waits o) ≡ Step.Waits t → AtTimer script t (Instr.Recv o)) [
      | true ↦ λ chan k.
          absurd (plain-is (λ step. step ≡ Step.Waits t → ⊥) (λ e q. cc) (λ kind q. cc) (CaseKind.Recv o) (goes_by script s m (plainly g) (CaseKind.Recv o)) k)
      | false ↦ λ chan k. let same : o ≡ t = cc in record { is = ap Instr.Recv same; plain = ap (λ o. is_chan script o || is_ctx script o) (sym same) ∙ chan }
    ] refl h
instr-waits script s m g t (Instr.Send c v) h = absurd (send-is (λ step. step ≡ Step.Waits t → ⊥) (λ e q. cc) (λ kind q. cc) script s m g c v h)
instr-waits script s m g t (Instr.Select cases default_to) h =
    absurd (choice-is (λ step. step ≡ Step.Waits t → ⊥) (λ e q. cc) (λ t q. cc) (λ timed q. cc) script s m g cases default_to h)
instr-waits script s m g t (Instr.Sleep zero) h = cc
instr-waits script s m g t (Instr.Sleep (suc d)) h = cc
instr-waits script s m g t (Instr.Lock k) h = absurd (plain-is (λ step. step ≡ Step.Waits t → ⊥) (λ e q. cc) (λ kind q. cc) (CaseKind.Recv k) (goes_by script s m (plainly g) (CaseKind.Recv k)) h)
instr-waits script s m g t (Instr.Wait w) h = absurd (plain-is (λ step. step ≡ Step.Waits t → ⊥) (λ e q. cc) (λ kind q. cc) (CaseKind.Recv w) (goes_by script s m (plainly g) (CaseKind.Recv w)) h)
instr-waits script s m g t (Instr.With x) h = absurd (with-is (λ step. step ≡ Step.Waits t → ⊥) (λ e q. cc) (λ x due q. cc) script s m g x h)
instr-waits script s m g t (Instr.Cancel x cause) h = absurd (cancel-is (λ step. step ≡ Step.Waits t → ⊥) (λ e q. cc) (λ x q. cc) script s m g x cause h)
instr-waits script s m g t _ h = cc

-- what was made and is neither a channel nor a context is a timer
made-timer : (script : Script) (s : State) (t : ℕ) → IsFormed script s → is_chan script t ≡ false → is_ctx script t ≡ false → fault script s (Instr.Recv t) ≡ None
    → is_some (timer_at s t) ≡ true
made-timer script s t formed plain other none =
    elim (channel_at s t) as (λ o. channel_at s t ≡ o → when (not (is_some (timer_at s t) || is_some o || is_some (context_at s t))) Reason.Unmade ≡ None → is_some (timer_at s t) ≡ true) [
      | None ↦ λ q k. elim (context_at s t) as (λ o. context_at s t ≡ o → when (not (is_some (timer_at s t) || false || is_some o)) Reason.Unmade ≡ None → is_some (timer_at s t) ≡ true) [
        | None ↦ λ p j. first (is_some (timer_at s t)) j
        | Some r ↦ λ p j. absurd (never-both (is_ctx script t) (formed.ctxs t r p).named other)
      ] refl k
      | Some r ↦ λ q k. absurd (never-both (is_chan script t) (formed.chans t r q).named plain)
    ] refl none
  where
    first : (b : Bool) → when (not (b || false || false)) Reason.Unmade ≡ None → b ≡ true
    first true h = refl
    first false h = cc

-- what gives values and is neither a channel nor a context is a timer
plain-timer : (timer chan endable : Bool) → IsTrue (timer || chan || endable) → chan ≡ false → endable ≡ false → timer ≡ true
plain-timer true chan endable gives plain other = refl
plain-timer false true endable gives plain other = cc
plain-timer false false true gives plain other = cc
plain-timer false false false gives plain other = cc

not-endable : (script : Script) (t : ℕ) → is_ctx script t ≡ false → is_endable script t ≡ false
not-endable script t other = unless-true (is_endable script t) (λ is. never-both (is_ctx script t) (endable_ctx script t is) other)

-- what is received from is declared
pub recv-declared : (script : Script) (t : ℕ) → NamesRightly script (Instr.Recv t) → t < length script.decls
recv-declared script t names = declared_within script t (λ o. names_timer o || names_chan o || can_end (named_form o)) refl names

pub waits-rightly : (script : Script) (s : State) (m : Schedule) (g t : ℕ) → IsGood script → IsFormed script s → step_of script s m g ≡ Some (Step.Waits t) → WaitsRightly script s g t
waits-rightly script s m g t good formed h =
    let step : IsStep script s m g (Step.Waits t) = step-is script s m g (Step.Waits t) h in
    elim (fault script s step.instr) as (λ o. fault script s step.instr ≡ o → step_or_panic script s m g step.instr o ≡ Step.Waits t → WaitsRightly script s g t) [
      | None ↦ λ q k.
          let at : AtTimer script t step.instr = instr-waits script s m g t step.instr k in
          let stands : stands_at script s g ≡ Some (Instr.Recv t) = step.stands ∙ ap Some at.is in
          let faultless : fault script s (Instr.Recv t) ≡ None = ap (fault script s) (sym at.is) ∙ q in
          let does : Does script s g (Instr.Recv t) = record { stands = stands; calm = calm-standing script s g (Instr.Recv t) stands faultless } in
          let names : NamesRightly script (Instr.Recv t) = names-Does script s g (Instr.Recv t) good does in
          let apart = or-false (is_chan script t) (is_ctx script t) at.plain in
          record {
            stands = stands;
            timer = plain-timer (is_timer script t) (is_chan script t) (is_endable script t) names apart.0 (not-endable script t apart.1);
            plain = apart.0;
            other = apart.1;
            faultless = faultless;
            made = made-timer script s t formed apart.0 apart.1 faultless;
            within = recv-declared script t names;
          }
      | Some reason ↦ λ q k. cc
    ] refl step.is

-- the same by what is seen of the book
pub waits-seen : (b : Inside) (v : BookView) (g t : ℕ) → seen b ≡ v → IsKept b → step_of v.script v.state v.schedule g ≡ Some (Step.Waits t) → WaitsRightly b.script (state_of b.run.machine) g t
waits-seen b v g t is kept step =
    waits-rightly b.script (state_of b.run.machine) (schedule_of b.run.scheduler) g t kept.lawful.good kept.lawful.formed (subst (λ (v : BookView). step_of v.script v.state v.schedule g ≡ Some (Step.Waits t)) (sym is) step)

-- it may be parked there
pub waits-parks : (script : Script) (s : State) (m : Schedule) (g t : ℕ) → IsGood script → IsFormed script s → status_of m g ≡ Some RunStatus.InHand
    → step_of script s m g ≡ Some (Step.Waits t) → CanPark script s m g (CaseKind.Recv t)
waits-parks script s m g t good formed in_hand h =
    let w : WaitsRightly script s g t = waits-rightly script s m g t good formed h in
    record {
      waiter = record { instr = Instr.Recv t; stands = w.stands; has = refl; in_hand = in_hand; declared = w.within };
      faultless = w.faultless;
      alone = timer-unready s t (what_at script t) w.timer;
      partner = timer-alone script s m g t w.plain;
    }
